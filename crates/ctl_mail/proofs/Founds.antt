-- The numbers that are found as a wake goes along the stalled messages, or along those that the scan has stalled.
use Rattle.std.proofs.Common.{◌≡◌, ◌≢◌, true, ◌⊎◌, ◌<◌, ◌≤◌, ◌+◌, ℕ, not, Option, None, Some, List, [], ◌∷◌, refl, sym, subst, ap, ◌∙◌, inl, inr, ⊎_elim, length, Contains, filter, get_or, take}
use Rattle.std.proofs.lemmas.Bool.{eq-eqb, eqb-true}
use Rattle.std.proofs.lemmas.List.{take_all, take_more}
use Rattle.std.proofs.lemmas.List.Elements.{Contains-append_left, Contains-push, Contains-push_cases}
use Rattle.ruby_value.specs.declared.message.Message.{Message}
use Rattle.ruby_value.specs.declared.message.MsgNo.{MsgNo}
use Rattle.stall_map.specs.declared.stalled.Stalled.{Stalled}
use Rattle.stall_map.specs.Prelude.{Ascends, is_above, is_under, messages_under, next_after, numbers_under}
use Rattle.ctl_face.proofs.Held.{from-filter, from-map, in-filter, nothing-there, to-map}
use Rattle.ctl_mail.specs.declared.moves.Waking.{Waking}
use Rattle.ctl_mail.specs.declared.moves.Waking.TheVariants.{All, Line}
use Rattle.ctl_mail.specs.Prelude.{Adds, NumbersRise, is_woken, IsWoken, IsWokenAmong, IsWokenStalled, IsWokenUnder, Told}
use Rattle.ctl_mail.proofs.Passed.{passed, passed-all, passed-from, passed-none, passed-to}
use Rattle.ctl_mail.proofs.Rises.{adds-as, adds-both, adds-none}

-- what a list has one place further
more-from : {X : Type 0} (xs : List X) (i : ℕ) (d x : X) → i < length xs → Contains (take (i + 1) xs) x → Contains (take i xs) x ⊎ (get_or xs i d ≡ x)
more-from xs i d x within has = Contains-push_cases (take i xs) (get_or xs i d) x (subst (λ ys. Contains ys x) (take_more xs i d within) has)

more-old : {X : Type 0} (xs : List X) (i : ℕ) (x : X) → i < length xs → Contains (take i xs) x → Contains (take (i + 1) xs) x
more-old xs i x within has = subst (λ ys. Contains ys x) (sym (take_more xs i x within)) (Contains-append_left (take i xs) (get_or xs i x ∷ []) x has)

more-new : {X : Type 0} (xs : List X) (i : ℕ) (d : X) → i < length xs → Contains (take (i + 1) xs) (get_or xs i d)
more-new xs i d within = subst (λ ys. Contains ys (get_or xs i d)) (sym (take_more xs i d within)) (Contains-push (take i xs) (get_or xs i d))

pub woken-waits : (waking : Waking) (w : Option ℕ) → is_woken waking w ≡ true → w ≢ None
woken-waits (Line line) None is none = absurd (cc is)
woken-waits All None is none = absurd (cc is)
woken-waits waking (Some l) is none = cc none

module _ (told : Told) (waking : Waking) where
  module _ (numbers : List MsgNo) (i : ℕ) (d : MsgNo) (within : i < length numbers) where
    abbrev At : MsgNo → Type 0
    At n = IsWoken told waking (get_or numbers i d) None × (get_or numbers i d ≡ n)

    among-to : (n : MsgNo) → IsWokenAmong (take i numbers) told waking n ⊎ At n → IsWokenAmong (take (i + 1) numbers) told waking n
    among-to n either =
        ⊎_elim
        (λ (is : IsWokenAmong (take i numbers) told waking n). record { among = more-old numbers i n within is.among; is = is.is })
        (λ (is : At n). record {
          among = subst (Contains (take (i + 1) numbers)) is.1 (more-new numbers i d within);
          is = subst (λ (k : MsgNo). IsWoken told waking k None) is.1 is.0;
        })
        either

    among-from : (n : MsgNo) → IsWokenAmong (take (i + 1) numbers) told waking n → IsWokenAmong (take i numbers) told waking n ⊎ At n
    among-from n is =
        ⊎_elim
        (λ there. inl (record { among = there; is = is.is }))
        (λ same. inr (subst (λ (k : MsgNo). IsWoken told waking k None) (sym same) is.is, same))
        (more-from numbers i d n within is.among)

    pub among-more : (a b c : List MsgNo) → Adds a (IsWokenAmong (take i numbers) told waking) b → Adds b At c → Adds a (IsWokenAmong (take (i + 1) numbers) told waking) c
    among-more a b c first second =
        adds-as (λ n. IsWokenAmong (take i numbers) told waking n ⊎ At n) (IsWokenAmong (take (i + 1) numbers) told waking) a c among-to among-from
        (adds-both (IsWokenAmong (take i numbers) told waking) At a b c first second)

  pub among-none : (numbers a : List MsgNo) → NumbersRise a → Adds a (IsWokenAmong (take 0 numbers) told waking) a
  among-none numbers a rises = adds-none (IsWokenAmong (take 0 numbers) told waking) a rises (λ n is. nothing-there n is.among)

  pub among-all : (numbers : List MsgNo) (i : ℕ) → length numbers ≤ i → (a b : List MsgNo) → Adds a (IsWokenAmong (take i numbers) told waking) b → Adds a (IsWokenAmong numbers told waking) b
  among-all numbers i past a b adds = subst (λ (ns : List MsgNo). Adds a (IsWokenAmong ns told waking) b) (take_all i numbers past) adds

  -- the next of all that wait
  module _ (stalled : List Stalled) (ascends : Ascends stalled) (number : Option MsgNo) (s : Stalled) (next : next_after stalled number ≡ Some s) where
    abbrev It : MsgNo → Type 0
    It n = IsWoken told waking s.message.number (Some s.line) × (s.message.number ≡ n)

    abbrev Before : MsgNo → Type 0
    Before = IsWokenStalled (passed stalled number) told waking

    abbrev After : MsgNo → Type 0
    After = IsWokenStalled (passed stalled (Some s.message.number)) told waking

    stalled-to : (n : MsgNo) → Before n ⊎ It n → After n
    stalled-to n either =
        ⊎_elim
        (λ (is : Before n). record { it = is.it; held = passed-to stalled ascends number s next is.it (inl is.held); is = is.is; number_is = is.number_is })
        (λ (is : It n). record { it = s; held = passed-to stalled ascends number s next s (inr refl); is = is.0; number_is = is.1 })
        either

    stalled-from : (n : MsgNo) → After n → Before n ⊎ It n
    stalled-from n is =
        ⊎_elim
        (λ there. inl (record { it = is.it; held = there; is = is.is; number_is = is.number_is }))
        (λ (same : s ≡ is.it).
        inr (subst (λ (z : Stalled). IsWoken told waking z.message.number (Some z.line)) (sym same) is.is, ap (λ (z : Stalled). z.message.number) same ∙ is.number_is))
        (passed-from stalled ascends number s next is.it is.held)

    pub stalled-more : (a b c : List MsgNo) → Adds a Before b → Adds b It c → Adds a After c
    stalled-more a b c first second = adds-as (λ n. Before n ⊎ It n) After a c stalled-to stalled-from (adds-both Before It a b c first second)

  pub stalled-none : (stalled : List Stalled) (a : List MsgNo) → NumbersRise a → Adds a (IsWokenStalled (passed stalled None) told waking) a
  stalled-none stalled a rises = adds-none (IsWokenStalled (passed stalled None) told waking) a rises (λ n is. passed-none stalled is.it is.held)

  pub stalled-all : (stalled : List Stalled) (number : Option MsgNo) → next_after stalled number ≡ None → (a b : List MsgNo)
      → Adds a (IsWokenStalled (passed stalled number) told waking) b → Adds a (IsWokenStalled stalled told waking) b
  stalled-all stalled number none a b adds =
      adds-as (IsWokenStalled (passed stalled number) told waking) (IsWokenStalled stalled told waking) a b
      (λ n is. record { it = is.it; held = (from-filter (λ (s : Stalled). not (is_above number s)) stalled is.it is.held).0; is = is.is; number_is = is.number_is })
      (λ n is. record { it = is.it; held = passed-all stalled number none is.it is.held; is = is.is; number_is = is.number_is })
      adds

-- the numbers under a line
module _ (told : Told) (line : ℕ) where
  abbrev pub IsWokenOf : List MsgNo → MsgNo → Type 0
  IsWokenOf numbers n = Contains numbers n × IsWoken told (Line line) n (Some line)

  abbrev One : MsgNo → MsgNo → Type 0
  One number n = IsWoken told (Line line) number (Some line) × (number ≡ n)

  pub under-none : (a : List MsgNo) (numbers : List MsgNo) → NumbersRise a → Adds a (IsWokenOf (take 0 numbers)) a
  under-none a numbers rises = adds-none (IsWokenOf (take 0 numbers)) a rises (λ n is. nothing-there n is.0)

  pub under-more : (numbers : List MsgNo) (i : ℕ) (d : MsgNo) → i < length numbers → (a b c : List MsgNo) → Adds a (IsWokenOf (take i numbers)) b
      → Adds b (One (get_or numbers i d)) c → Adds a (IsWokenOf (take (i + 1) numbers)) c
  under-more numbers i d within a b c first second =
      adds-as (λ n. IsWokenOf (take i numbers) n ⊎ One (get_or numbers i d) n) (IsWokenOf (take (i + 1) numbers)) a c
      (λ n either.
      ⊎_elim
      (λ (is : IsWokenOf (take i numbers) n). (more-old numbers i n within is.0, is.1))
      (λ (is : One (get_or numbers i d) n).
      (subst (Contains (take (i + 1) numbers)) is.1 (more-new numbers i d within), subst (λ k. IsWoken told (Line line) k (Some line)) is.1 is.0))
      either)
      (λ n is.
      ⊎_elim
      (λ earlier. inl (earlier, is.1))
      (λ (same : get_or numbers i d ≡ n). inr (subst (λ k. IsWoken told (Line line) k (Some line)) (sym same) is.1, same))
      (more-from numbers i d n within is.0))
      (adds-both (IsWokenOf (take i numbers)) (One (get_or numbers i d)) a b c first second)

  -- they are those of the messages there
  pub under-all : (stalled : List Stalled) (numbers : List MsgNo) (i : ℕ) → numbers ≡ numbers_under stalled line → length numbers ≤ i → (a b : List MsgNo)
      → Adds a (IsWokenOf (take i numbers)) b → Adds a (IsWokenUnder stalled told line) b
  under-all stalled numbers i is past a b adds =
      adds-as (IsWokenOf (take i numbers)) (IsWokenUnder stalled told line) a b
      (λ n of.
      let has : Contains (numbers_under stalled line) n = subst (λ ns. Contains ns n) (take_all i numbers past ∙ is) of.0 in
      let m = from-map (λ (m : Message). m.number) (messages_under stalled line) n has in
      let s = from-map (λ (z : Stalled). z.message) (filter (is_under line) stalled) m.0 m.1 in
      let kept = from-filter (is_under line) stalled s.0 s.1 in
      let number : s.0.message.number ≡ n = ap (λ (m : Message). m.number) s.2 ∙ m.2 in
      record {
        it = s.0;
        held = kept.0;
        under = eqb-true s.0.line line kept.1;
        is = subst (λ k. IsWoken told (Line line) k (Some line)) (sym number) of.1;
        number_is = number;
      })
      (λ n u.
      let inside : Contains (filter (is_under line) stalled) u.it = in-filter (is_under line) stalled u.it (eq-eqb u.it.line line u.under) u.held in
      let message : Contains (messages_under stalled line) u.it.message = to-map (λ (z : Stalled). z.message) (filter (is_under line) stalled) u.it inside in
      let number : Contains (numbers_under stalled line) u.it.message.number = to-map (λ (m : Message). m.number) (messages_under stalled line) u.it.message message in (
        subst (λ ns. Contains ns n) (sym (take_all i numbers past ∙ is)) (subst (Contains (numbers_under stalled line)) u.number_is number),
        subst (λ k. IsWoken told (Line line) k (Some line)) u.number_is u.is,
      ))
      adds
