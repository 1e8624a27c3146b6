-- Counting the requests that are due, one by one.
use Rattle.std.proofs.Common.{◌≡◌, ℕ, ◌+◌, ◌<◌, ◌≤◌, suc, Bool, true, false, List, [], ◌∷◌, nat_le, length, refl, arith}
use Rattle.std.proofs.lemmas.Bool.Decides.{nat_tests}
use Rattle.sequencer.specs.declared.issued.Issued.{Issued}
use Rattle.controller_rows.specs.Prelude.{count_due}

pub none-due : (now : ℕ) (i : Issued) (rest : List Issued) → now < i.asked.issued → count_due now (i ∷ rest) ≡ 0
none-due now i rest lt = let no : nat_le i.asked.issued now ≡ false = grind (arith, nat_tests, lt) in rw no refl

pub one-due : (now : ℕ) (i : Issued) (rest : List Issued) → i.asked.issued ≤ now → count_due now (i ∷ rest) ≡ suc (count_due now rest)
one-due now i rest le = let yes : nat_le i.asked.issued now ≡ true = grind (arith, nat_tests, le) in rw yes refl

within-by : (now : ℕ) (i : Issued) (rest : List Issued) (b : Bool) → nat_le i.asked.issued now ≡ b → count_due now rest ≤ length rest
    → count_due now (i ∷ rest) ≤ suc (length rest)
within-by now i rest true is le = rw is (omega arith)
within-by now i rest false is le = rw is (omega arith)

pub due-within : (now : ℕ) (is : List Issued) → count_due now is ≤ length is
due-within now [] = omega arith
due-within now (i ∷ rest) = within-by now i rest (nat_le i.asked.issued now) refl (due-within now rest)
