-- Of a program whose instructions have numbers of 32 bits each body has few enough.
use Rattle.std.proofs.Common.{◌≡◌, ℕ, zero, suc, ◌<◌, ◌^◌, Bool, true, false, ◌&&◌, Some, List, [], ◌∷◌, IsTrue, length, nat_lt, slice_get, subst, arith}
use Rattle.std.proofs.lemmas.Bool.Decides.{nat_tests}
use Rattle.action_code.specs.declared.instr.Code.{Code}
use Rattle.action_code.specs.declared.program.Program.{Program}
use Rattle.action_code.specs.Fits.{are_numbered, is_numbered}

pub first_of : (a b : Bool) → (a && b) ≡ true → a ≡ true
first_of true b h = cc
first_of false b h = h

pub second_of : (a b : Bool) → (a && b) ≡ true → b ≡ true
second_of true b h = h
second_of false b h = absurd (cc)

below : (n m : ℕ) → nat_lt n m ≡ true → n < m
below n m h = grind (arith, nat_tests)

few_in : (bodies : List Code) (body : ℕ) (c : Code) → are_numbered bodies ≡ true → slice_get bodies body ≡ Some c
    → nat_lt (length c.instructions) (2 ^ 32) ≡ true
few_in [] body c all found = absurd (cc)
few_in (d ∷ bodies) zero c all found =
    let same : d ≡ c = cc in
    let P : Code → Type 0 = λ e. nat_lt (length e.instructions) (2 ^ 32) ≡ true in
    subst P same (first_of (nat_lt (length d.instructions) (2 ^ 32)) (are_numbered bodies) all)
few_in (d ∷ bodies) (suc body) c all found = few_in bodies body c (second_of (nat_lt (length d.instructions) (2 ^ 32)) (are_numbered bodies) all) found

pub few_instructions : (p : Program) (body : ℕ) (c : Code) → IsTrue (is_numbered p) → slice_get p.bodies body ≡ Some c
    → length c.instructions < 2 ^ 32
few_instructions p body c h found =
    below (length c.instructions) (2 ^ 32) (few_in p.bodies body c (second_of (nat_lt (length p.bodies) (2 ^ 32)) (are_numbered p.bodies) h) found)
