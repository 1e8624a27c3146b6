-- The scopes of machines, one after the other.
use Rattle.std.proofs.Common.{◌≡◌, ℕ, zero, suc, ◌+◌, ◌-◌, ◌<◌, ◌≤◌, Option, List, [], ◌∷◌, ◌++◌, length, map, slice_index_or, take, refl, sym, ap, ◌∙◌, arith, add-one}
use Rattle.std.proofs.Math.Seq.{take-suc}
use Rattle.std.proofs.lemmas.List.{length-map, take_all}
use Rattle.std.proofs.lemmas.Grind.{common_steps}
use Rattle.slicc_ast.specs.declared.tree.machine.Machine.{Machine}
use Rattle.slicc_plan.specs.declared.broken.Broken.{Broken}
use Rattle.slicc_plan.specs.Prelude.{everywhere, within, in_each_from, first_after}
use Rattle.slicc_plan.proofs.Firsts.{first_after-append}
use Rattle.machine_table.proofs.TablesOfMachines.{in_each_from-push}
use Rattle.machine_rules.specs.Prelude.{found_within}

pub scope_within : (ms : List Machine) (k : ℕ) (m : Machine) → k < length ms → slice_index_or (map within ms) k everywhere ≡ within (slice_index_or ms k m)
scope_within [] k m below = absurd (none k below)
  where
    none : (k : ℕ) → k < 0 → ⊥
    none k below = omega (arith, below)
scope_within (l ∷ ms) zero m below = refl
scope_within (l ∷ ms) (suc k) m below = scope_within ms k m (omega (arith, below))

-- what is found in one more machine
pub one_machine : (found : ℕ → Machine → List Broken) (ms : List Machine) (k : ℕ) (l : Machine) (first : Option Broken) → k < length ms → first_after first (in_each_from 0 found (take (k + 1) ms)) ≡ first_after (first_after first (in_each_from 0 found (take k ms))) (found k (slice_index_or ms k l))
one_machine found ms k l first below =
    let m = slice_index_or ms k l in
    let taken : take (k + 1) ms ≡ take k ms ++ slice_index_or ms k l ∷ [] = rw (add-one, take-suc ms k l below) refl in
    let count : 0 + length (take k ms) ≡ k = grind (arith, common_steps) in
    ap (λ xs. first_after first (in_each_from 0 found xs)) taken
    ∙ ap (first_after first) (in_each_from-push 0 found (take k ms) m ∙ ap (λ n. in_each_from 0 found (take k ms) ++ found n m) count)
    ∙ first_after-append first (in_each_from 0 found (take k ms)) (found k m)

-- the same by the scope's number
pub one_scope : (found : ℕ → Machine → List Broken) (ms : List Machine) (scope number : ℕ) (first before after : Option Broken) → 1 ≤ scope → scope < length (everywhere ∷ map within ms) → number ≡ scope - 1 → before ≡ first_after first (in_each_from 0 found (take (scope - 1) ms)) → after ≡ first_after before (found_within (found number) (slice_index_or (everywhere ∷ map within ms) scope everywhere))
    → after ≡ first_after first (in_each_from 0 found (take (scope + 1 - 1) ms))
one_scope found ms zero number first before after some below same e g = absurd (none some)
  where
    none : 1 ≤ 0 → ⊥
    none some = omega (arith, some)
one_scope found [] (suc k) number first before after some below same e g = absurd (none k below)
  where
    none : (k : ℕ) → suc k < 1 → ⊥
    none k below = omega (arith, below)
one_scope found (l ∷ ms) (suc k) number first before after some below same e g =
    let under : k < length (l ∷ ms) = omega (arith, below, length-map (l ∷ ms) within) in
    let back : suc k - 1 ≡ k = omega arith in
    let next : suc k + 1 - 1 ≡ k + 1 = omega arith in
    let m = slice_index_or (l ∷ ms) k l in
    g
    ∙ ap (λ s. first_after before (found_within (found number) s)) (scope_within (l ∷ ms) k l under)
    ∙ ap (λ n. first_after before (found n m)) (same ∙ back)
    ∙ ap (λ o. first_after o (found k m)) (e ∙ ap (λ n. first_after first (in_each_from 0 found (take n (l ∷ ms)))) back)
    ∙ sym (one_machine found (l ∷ ms) k l first under)
    ∙ ap (λ n. first_after first (in_each_from 0 found (take n (l ∷ ms)))) (sym next)

-- all machines, where the scopes are done
pub all_scopes : (ms : List Machine) (scope : ℕ) → length (everywhere ∷ map within ms) ≤ scope → take (scope - 1) ms ≡ ms
all_scopes ms scope done = take_all (scope - 1) ms (omega (arith, done, length-map ms within))
