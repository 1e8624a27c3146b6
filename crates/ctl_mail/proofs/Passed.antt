-- Going over all messages that wait, from each to the next one by number.
use Rattle.std.proofs.Common.{◌≡◌, ◌⊎◌, ◌<◌, ℕ, Bor, Bool, true, false, not, Option, None, Some, List, [], ◌∷◌, refl, sym, ap, subst, ◌∙◌, inl, inr, ⊎_elim, Contains, filter, length, slice_get, arith}
use Rattle.std.proofs.lemmas.Bool.Decides.{nat_tests}
use Rattle.std.proofs.lemmas.List.Elements.{All-contains}
use Rattle.std.proofs.lemmas.List.Kept.{AllPairs-filter}
use Rattle.std.specs.List.{AllPairs}
use Rattle.ruby_value.specs.declared.message.Message.{Message}
use Rattle.ruby_value.specs.declared.message.MsgNo.{MsgNo}
use Rattle.ruby_value.specs.Prelude.{IsBefore, number_before}
use Rattle.ruby_value.proofs.Contained.{Contains-cons_cases, Contains-cons_here}
use Rattle.ruby_value.proofs.Ordered.{AllPairs-head}
use Rattle.stall_map.specs.declared.stalled.Stalled.{Stalled}
use Rattle.stall_map.specs.Prelude.{Ascends, is_above, next_after}
use Rattle.ctl_face.proofs.Held.{from-filter, in-filter, nothing-there}
use Rattle.ctl_face.proofs.Inboxes.{number_before_trans}
use Rattle.ctl_mail.proofs.Rises.{shorter}

-- a message that waits, as a call answers it
abbrev pub stalled_of : ℕ × Bor Message → Stalled
stalled_of next = record { line = next.0; message = next.1.now }

abbrev Comes : Stalled → Stalled → Type 0
Comes a b = IsBefore a.message.number b.message.number

before-not : (a b : MsgNo) → IsBefore a b → number_before a b ≡ false → ⊥
before-not a b is not = grind (arith, nat_tests, is, not)

itself : (a : MsgNo) → number_before a a ≡ false
itself a = grind (arith, nat_tests)

first-is : (xs : List Stalled) (s : Stalled) → slice_get xs 0 ≡ Some s → Contains xs s
first-is [] s is = absurd (cc is)
first-is (x ∷ xs) s is = let it : x ≡ s = cc is in subst (Contains (x ∷ xs)) it (Contains-cons_here x xs)

first-or-after : (xs : List Stalled) (s x : Stalled) → AllPairs Comes xs → slice_get xs 0 ≡ Some s → Contains xs x → (s ≡ x) ⊎ Comes s x
first-or-after [] s x pairs is has = absurd (cc is)
first-or-after (y ∷ ys) s x pairs is has =
    let it : y ≡ s = cc is in
    ⊎_elim
    (λ same. inl (sym it ∙ same))
    (λ there. inr (subst (λ (z : Stalled). Comes z x) it (All-contains (Comes y) ys x (AllPairs-head Comes y ys pairs) there)))
    (Contains-cons_cases y x ys has)

none-first : (xs : List Stalled) (x : Stalled) → slice_get xs 0 ≡ None → Contains xs x → ⊥
none-first [] x none has = nothing-there x has
none-first (y ∷ ys) x none has = absurd (cc none)

module _ (stalled : List Stalled) where
  -- those up to a number, if there is one
  abbrev pub passed : Option MsgNo → List Stalled
  passed number = filter (λ (s : Stalled). not (is_above number s)) stalled

  abbrev pub left_above : Option MsgNo → List Stalled
  left_above number = filter (is_above number) stalled

  pub passed-none : (x : Stalled) → Contains (passed None) x → ⊥
  passed-none x has = let so = from-filter (λ (s : Stalled). not (is_above None s)) stalled x has in absurd (cc so.1)

  turned : (b : Bool) → not b ≡ true → b ≡ false
  turned true is = absurd (cc is)
  turned false is = refl

  in-passed : (number : Option MsgNo) (x : Stalled) → Contains stalled x → is_above number x ≡ false → Contains (passed number) x
  in-passed number x has is = in-filter (λ (s : Stalled). not (is_above number s)) stalled x (ap not is) has

  from-passed : (number : Option MsgNo) (x : Stalled) → Contains (passed number) x → Contains stalled x × (is_above number x ≡ false)
  from-passed number x has =
      let so = from-filter (λ (s : Stalled). not (is_above number s)) stalled x has in
      (so.0, turned (is_above number x) so.1)

  -- all are passed where none comes after
  pub passed-all : (number : Option MsgNo) → next_after stalled number ≡ None → (x : Stalled) → Contains stalled x → Contains (passed number) x
  passed-all number none x has = by (is_above number x) refl
    where
      by : (b : Bool) → is_above number x ≡ b → Contains (passed number) x
      by true is = absurd (none-first (left_above number) x none (in-filter (is_above number) stalled x is has))
      by false is = in-passed number x has is

  module _ (ascends : Ascends stalled) (number : Option MsgNo) (s : Stalled) (next : next_after stalled number ≡ Some s) where
    next-in : Contains stalled s × (is_above number s ≡ true)
    next-in = from-filter (is_above number) stalled s (first-is (left_above number) s next)

    not-above : (n : Option MsgNo) (x : Stalled) → is_above n s ≡ true → is_above n x ≡ false → number_before s.message.number x.message.number ≡ false
    not-above None x above below = absurd (cc below)
    not-above (Some n) x above below = by (number_before s.message.number x.message.number) refl
      where
        by : (b : Bool) → number_before s.message.number x.message.number ≡ b → b ≡ false
        by true is = absurd (cc (number_before_trans n s.message.number x.message.number above is, below))
        by false is = refl

    pub passed-from : (x : Stalled) → Contains (passed (Some s.message.number)) x → Contains (passed number) x ⊎ (s ≡ x)
    passed-from x has =
        let so = from-passed (Some s.message.number) x has in
        by (is_above number x) refl so.0 so.1
      where
        by : (b : Bool) → is_above number x ≡ b → Contains stalled x → number_before s.message.number x.message.number ≡ false → Contains (passed number) x ⊎ (s ≡ x)
        by true is there below =
            ⊎_elim
            (λ same. inr same)
            (λ after. absurd (before-not s.message.number x.message.number after below))
            (first-or-after (left_above number) s x (AllPairs-filter Comes (is_above number) stalled ascends) next (in-filter (is_above number) stalled x is there))
        by false is there below = inl (in-passed number x there is)

    pub passed-to : (x : Stalled) → Contains (passed number) x ⊎ (s ≡ x) → Contains (passed (Some s.message.number)) x
    passed-to x either =
        ⊎_elim
        (λ earlier. let so = from-passed number x earlier in in-passed (Some s.message.number) x so.0 (not-above number x next-in.1 so.1))
        (λ same. subst (Contains (passed (Some s.message.number))) same (in-passed (Some s.message.number) s next-in.0 (itself s.message.number)))
        either

    further : (n : Option MsgNo) (x : Stalled) → is_above n s ≡ true → number_before s.message.number x.message.number ≡ true → is_above n x ≡ true
    further None x above is = refl
    further (Some n) x above is = number_before_trans n s.message.number x.message.number above is

    pub fewer-left : length (left_above (Some s.message.number)) < length (left_above number)
    fewer-left =
        shorter (is_above number) (is_above (Some s.message.number)) (λ x is. further number x next-in.1 is) s next-in.1 (itself s.message.number) stalled next-in.0

-- the first of all is one that waits, and there is none where none waits
pub next-there : (stalled : List Stalled) (number : Option MsgNo) (s : Stalled) → next_after stalled number ≡ Some s → Contains stalled s
next-there stalled number s next = (from-filter (is_above number) stalled s (first-is (filter (is_above number) stalled) s next)).0

pub none-waits : (stalled : List Stalled) → next_after stalled None ≡ None → stalled ≡ []
none-waits [] none = refl
none-waits (s ∷ rest) none = absurd (cc none)
