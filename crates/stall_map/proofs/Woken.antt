-- Messages under a line that are taken out one after another.
use Rattle.std.proofs.Common.{◌≡◌, ℕ, Bool, true, false, not, Some, List, [], ◌∷◌, map, refl, sym, ap, subst}
use Rattle.std.proofs.lemmas.List.Elements.{All-filter, All-head, All-weaker}
use Rattle.std.specs.List.{All, filter, find}
use Rattle.ruby_value.specs.declared.message.Message.{Message}
use Rattle.ruby_value.specs.declared.message.MsgNo.{MsgNo}
use Rattle.ruby_value.specs.Prelude.{IsBefore, same_number}
use Rattle.ruby_value.proofs.Ordered.{AllPairs-head, AllPairs-tail}
use Rattle.stall_map.specs.declared.stalled.Stalled.{Stalled}
use Rattle.stall_map.specs.Prelude.{Ascends, is_under, messages_under, numbers_under, without_line}
use Rattle.stall_map.proofs.Numbers.{not-same, not-same-back, same-itself}
use Rattle.stall_map.proofs.Orders.{is_other}
use Rattle.stall_map.proofs.Placed.{filter-all}

-- the first message under the line, of this number, is taken out
pub record IsTaken (line : ℕ) (number : MsgNo) (rest : List MsgNo) (xs : List Stalled) : Type 0 where
  pub s : Stalled
  pub found : find (λ (s : Stalled). same_number s.message.number number) xs ≡ Some s
  pub woken : messages_under xs line ≡ s.message ∷ messages_under (filter (is_other number) xs) line
  pub left : numbers_under (filter (is_other number) xs) line ≡ rest
  pub others : without_line (filter (is_other number) xs) line ≡ without_line xs line

later : (x : Stalled) (xs : List Stalled) → Ascends (x ∷ xs) → All (λ (s : Stalled). IsBefore x.message.number s.message.number) xs
later x xs ascends = AllPairs-head (λ (a b : Stalled). IsBefore a.message.number b.message.number) x xs ascends

-- an item before all of the others comes before the first of them under a line
before-first : (line : ℕ) (number a : MsgNo) (rest : List MsgNo) (xs : List Stalled) → All (λ (s : Stalled). IsBefore a s.message.number) xs → numbers_under xs line ≡ number ∷ rest → IsBefore a number
before-first line number a rest xs before is =
    by (filter (is_under line) xs) (All-filter (is_under line) (λ (s : Stalled). IsBefore a s.message.number) xs before) is
  where
    by : (ys : List Stalled) → All (λ (s : Stalled). IsBefore a s.message.number) ys → map (λ (m : Message). m.number) (map (λ (s : Stalled). s.message) ys) ≡ number ∷ rest → IsBefore a number
    by [] all is = absurd (cc is)
    by (y ∷ ys) all is = let same : y.message.number ≡ number = cc is in subst (IsBefore a) same (All-head (λ (s : Stalled). IsBefore a s.message.number) y ys all)

pub taken : (line : ℕ) (number : MsgNo) (rest : List MsgNo) (xs : List Stalled) → Ascends xs → numbers_under xs line ≡ number ∷ rest → IsTaken line number rest xs
taken line number rest [] ascends is = absurd (cc is)
taken line number rest (x ∷ xs) ascends is = by (is_under line x) refl (λ is. taken line number rest xs (AllPairs-tail (λ (a b : Stalled). IsBefore a.message.number b.message.number) x xs ascends) is)
  where
    here : is_under line x ≡ true → IsTaken line number rest (x ∷ xs)
    here under =
        let numbers : x.message.number ∷ numbers_under xs line ≡ number ∷ rest = rw under at is in
        let same : x.message.number ≡ number = cc numbers in
        let passes : same_number x.message.number number ≡ true = subst (λ (n : MsgNo). same_number n number ≡ true) (sym same) (same-itself number) in
        let stay : filter (is_other number) xs ≡ xs =
        filter-all (is_other number) xs
        (All-weaker (λ (s : Stalled). IsBefore x.message.number s.message.number) (λ s. is_other number s ≡ true)
        (λ s before. ap not (not-same-back s.message.number number (subst (λ (n : MsgNo). IsBefore n s.message.number) same before))) xs (later x xs ascends)) in
        record {
          s = x;
          found = rw passes refl;
          woken = rw (under, passes, stay) refl;
          left = rw (passes, stay) (cc numbers);
          others = rw (under, passes, stay) refl;
        }

    there : is_under line x ≡ false → (numbers_under xs line ≡ number ∷ rest → IsTaken line number rest xs) → IsTaken line number rest (x ∷ xs)
    there under below =
        let numbers : numbers_under xs line ≡ number ∷ rest = rw under at is in
        let step = below numbers in
        let fails : same_number x.message.number number ≡ false = not-same x.message.number number (before-first line number x.message.number rest xs (later x xs ascends) numbers) in
        record {
          s = step.s;
          found = rw fails step.found;
          woken = rw (fails, under) step.woken;
          left = rw (fails, under) step.left;
          others = rw (fails, under) (ap (λ ys. x ∷ ys) step.others);
        }

    by : (b : Bool) → is_under line x ≡ b → (numbers_under xs line ≡ number ∷ rest → IsTaken line number rest xs) → IsTaken line number rest (x ∷ xs)
    by true under below = here under
    by false under below = there under below
