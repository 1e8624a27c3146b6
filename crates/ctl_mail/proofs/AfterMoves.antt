-- Where messages wait after a log of moves, by what its entries are.
use Rattle.std.proofs.Common.{◌≡◌, ◌≢◌, ◌⊎◌, ℕ, Bool, true, false, cond, Option, List, [], ◌∷◌, refl, sym, subst, ap, ◌∙◌, inl, inr, ⊎_elim, Contains}
use Rattle.ruby_value.specs.declared.message.MsgNo.{MsgNo}
use Rattle.ruby_value.specs.Prelude.{number_before, same_number}
use Rattle.ruby_value.proofs.Contained.{Contains-cons_cases, Contains-cons_here, Contains-cons_there}
use Rattle.ctl_face.proofs.Held.{nothing-there}
use Rattle.ctl_mail.specs.declared.moves.Move.{Move}
use Rattle.ctl_mail.specs.Prelude.{after_move}
use Rattle.ctl_mail.specs.Moves.{waiting_after, with_move, with_moves}
use Rattle.ctl_mail.proofs.Inboxes.{differ-test, same-or-not, same-test}
use Rattle.ctl_mail.proofs.Inserts.{inserted-from}
use Rattle.ctl_mail.proofs.Numbered.{found-with}

-- one number is in a list or isn't
pub in-or-not : (numbers : List MsgNo) (n : MsgNo) → Contains numbers n ⊎ (Contains numbers n → ⊥)
in-or-not [] n = inr (nothing-there n)
in-or-not (x ∷ xs) n =
    ⊎_elim
    (λ same. inl (subst (Contains (x ∷ xs)) same (Contains-cons_here x xs)))
    (λ apart.
    ⊎_elim
    (λ there. inl (Contains-cons_there x n xs there))
    (λ not_there. inr (λ has. ⊎_elim apart not_there (Contains-cons_cases x n xs has)))
    (in-or-not xs n))
    (same-or-not x n)

module _ (n : MsgNo) where
  pub after-nothing : (before : Option ℕ) → waiting_after n [] before ≡ before
  unfolding waiting_after
  after-nothing before = refl

  pub after-cons : (m : Move) (ms : List Move) (before : Option ℕ) → waiting_after n (m ∷ ms) before ≡ waiting_after n ms (after_move n before m)
  unfolding waiting_after
  after-cons m ms before = refl

  pub move-of : (m : Move) (before : Option ℕ) → m.number ≡ n → after_move n before m ≡ m.line
  move-of m before same = ap (λ b. cond b m.line before) (same-test m.number n same)

  pub move-of-other : (m : Move) (before : Option ℕ) → m.number ≢ n → after_move n before m ≡ before
  move-of-other m before apart = ap (λ b. cond b m.line before) (differ-test m.number n apart)

  -- after one move more
  pub after-with : (moves : List Move) (number : MsgNo) (line before : Option ℕ)
      → waiting_after n (with_move moves number line) before ≡ cond (same_number number n) line (waiting_after n moves before)
  unfolding waiting_after with_move
  after-with moves number line before =
      found-with (λ (m : Move). m.number) (λ (m : Move). m.line) n moves (record { number = number; line = line }) before

  with-nothing : (moves : List Move) (w : Option ℕ) → with_moves moves w [] ≡ moves
  unfolding with_moves
  with-nothing moves w = refl

  with-cons : (moves : List Move) (w : Option ℕ) (x : MsgNo) (xs : List MsgNo) → with_moves moves w (x ∷ xs) ≡ with_moves (with_move moves x w) w xs
  unfolding with_moves
  with-cons moves w x xs = refl

  -- what waits so already still does
  stays : (moves : List Move) (w : Option ℕ) (numbers : List MsgNo) (before : Option ℕ) → waiting_after n moves before ≡ w → waiting_after n (with_moves moves w numbers) before ≡ w
  stays moves w [] before so = ap (λ ms. waiting_after n ms before) (with-nothing moves w) ∙ so
  stays moves w (x ∷ xs) before so =
      ap (λ ms. waiting_after n ms before) (with-cons moves w x xs)
      ∙ stays (with_move moves x w) w xs before (after-with moves x w before ∙ (ap (cond (same_number x n) w) so ∙ either (same_number x n)))
    where
      either : (b : Bool) → cond b w w ≡ w
      either true = refl
      either false = refl

  -- after more moves that make some messages wait so
  pub waits-in : (moves : List Move) (w : Option ℕ) (numbers : List MsgNo) (before : Option ℕ) → Contains numbers n → waiting_after n (with_moves moves w numbers) before ≡ w
  waits-in moves w [] before has = absurd (nothing-there n has)
  waits-in moves w (x ∷ xs) before has =
      ap (λ ms. waiting_after n ms before) (with-cons moves w x xs)
      ∙ ⊎_elim
      (λ same. stays (with_move moves x w) w xs before (after-with moves x w before ∙ ap (λ b. cond b w (waiting_after n moves before)) (same-test x n same)))
      (λ there. waits-in (with_move moves x w) w xs before there)
      (Contains-cons_cases x n xs has)

  pub waits-out : (moves : List Move) (w : Option ℕ) (numbers : List MsgNo) (before : Option ℕ) → (Contains numbers n → ⊥)
      → waiting_after n (with_moves moves w numbers) before ≡ waiting_after n moves before
  waits-out moves w [] before none = ap (λ ms. waiting_after n ms before) (with-nothing moves w)
  waits-out moves w (x ∷ xs) before none =
      ap (λ ms. waiting_after n ms before) (with-cons moves w x xs)
      ∙ (waits-out (with_move moves x w) w xs before (λ has. none (Contains-cons_there x n xs has))
      ∙ (after-with moves x w before
      ∙ ap (λ b. cond b w (waiting_after n moves before)) (differ-test x n (λ same. none (subst (Contains (x ∷ xs)) same (Contains-cons_here x xs))))))

  -- what waits otherwise than before has an entry
  pub has-entry : (moves : List Move) (before : Option ℕ) → waiting_after n moves before ≢ before → (m : Move) × Contains moves m × (m.number ≡ n)
  has-entry [] before other = absurd (other (after-nothing before))
  has-entry (m ∷ ms) before other =
      ⊎_elim
      (λ same. (m, Contains-cons_here m ms, same))
      (λ apart.
      let so = has-entry ms before (λ is. other (after-cons m ms before ∙ (ap (waiting_after n ms) (move-of-other m before apart) ∙ is))) in
      (so.0, Contains-cons_there m so.0 ms so.1, so.2))
      (same-or-not m.number n)

  -- it waits as before, or so as its last entry says
  pub last-entry : (moves : List Move) (before : Option ℕ)
      → (waiting_after n moves before ≡ before) ⊎ ((m : Move) × Contains moves m × (m.number ≡ n) × (m.line ≡ waiting_after n moves before))
  last-entry [] before = inl (after-nothing before)
  last-entry (m ∷ ms) before =
      let first = after-cons m ms before in
      ⊎_elim
      (λ (stays : waiting_after n ms (after_move n before m) ≡ after_move n before m).
      ⊎_elim
      (λ same. inr (m, Contains-cons_here m ms, same, sym (first ∙ (stays ∙ move-of m before same))))
      (λ apart. inl (first ∙ (stays ∙ move-of-other m before apart)))
      (same-or-not m.number n))
      (λ (later : (x : Move) × Contains ms x × (x.number ≡ n) × (x.line ≡ waiting_after n ms (after_move n before m))).
      inr (later.0, Contains-cons_there m later.0 ms later.1, later.2, later.3 ∙ sym first))
      (last-entry ms (after_move n before m))

  -- with an entry it doesn't matter how it waited before
  pub with-entry : (moves : List Move) (m : Move) (a b : Option ℕ) → Contains moves m → m.number ≡ n → waiting_after n moves a ≡ waiting_after n moves b
  with-entry [] m a b has is = absurd (nothing-there m has)
  with-entry (x ∷ xs) m a b has is =
      after-cons x xs a
      ∙ (⊎_elim
      (λ same.
      let here : x.number ≡ n = ap (λ (z : Move). z.number) same ∙ is in
      ap (waiting_after n xs) (move-of x a here ∙ sym (move-of x b here)))
      (λ there. with-entry xs m (after_move n a x) (after_move n b x) there is)
      (Contains-cons_cases x m xs has)
      ∙ sym (after-cons x xs b))

-- each move is one that was there, or of one of these messages
pub moves-from : (moves : List Move) (w : Option ℕ) (numbers : List MsgNo) (m : Move) → Contains (with_moves moves w numbers) m → Contains moves m ⊎ Contains numbers m.number
unfolding with_moves with_move
moves-from moves w [] m has = inl has
moves-from moves w (x ∷ xs) m has =
    ⊎_elim
    (λ earlier.
    ⊎_elim
    (λ (is : record { number = x; line = w } ≡ m). inr (subst (Contains (x ∷ xs)) (ap (λ (z : Move). z.number) is) (Contains-cons_here x xs)))
    inl
    (inserted-from (λ (a b : Move). number_before a.number b.number) moves (record { number = x; line = w }) m earlier))
    (λ there. inr (Contains-cons_there x m.number xs there))
    (moves-from (with_move moves x w) w xs m has)
