-- What holds for each machine holds for all machines of a protocol, and the rules that each of them keeps.
use Rattle.std.proofs.Common.{◌≡◌, ◌+◌, ℕ, zero, suc, Some, List, [], ◌∷◌, All, length, slice_get, refl, sym, ◌∙◌, ap, subst, arith, add-zero}
use Rattle.std.specs.Option.{option_map}
use Rattle.std.proofs.lemmas.List.Elements.{All-cons, All-nil}
use Rattle.ruby_symbols.specs.declared.machine.MachineSymbols.{MachineSymbols}
use Rattle.slicc_ast.specs.declared.tree.item.Tree.{Tree}
use Rattle.slicc_ast.specs.declared.tree.machine.Machine.{Machine}
use Rattle.slicc_plan.specs.declared.broken.Broken.{Broken}
use Rattle.slicc_plan.specs.Prelude.{machines_of, in_each_from, machines_from, symbols_of, machine_symbols}
use Rattle.slicc_plan.proofs.Room.{left_none, right_none}

-- by their numbers

symbols_from : (trees : List Tree) (n : ℕ) (ms : List Machine) (k : ℕ) → slice_get (machines_from trees n ms) k ≡ option_map (machine_symbols trees (n + k)) (slice_get ms k)
symbols_from trees n [] k = refl
symbols_from trees n (m ∷ ms) zero =
    let same : n ≡ n + 0 = omega arith in ap (λ j. Some (machine_symbols trees j m)) same
symbols_from trees n (m ∷ ms) (suc k) =
    let same : n + 1 + k ≡ n + suc k = omega arith in
    symbols_from trees (n + 1) ms k ∙ ap (λ j. option_map (machine_symbols trees j) (slice_get ms k)) same

pub symbols_at : (trees : List Tree) (k : ℕ) → slice_get (symbols_of trees).machines k ≡ option_map (machine_symbols trees k) (slice_get (machines_of trees) k)
unfolding symbols_of
symbols_at trees k =
    let same : 0 + k ≡ k = omega arith in
    symbols_from trees 0 (machines_of trees) k ∙ ap (λ j. option_map (machine_symbols trees j) (slice_get (machines_of trees) k)) same

counted_from : (trees : List Tree) (n : ℕ) (ms : List Machine) → length (machines_from trees n ms) ≡ length ms
counted_from trees n [] = refl
counted_from trees n (m ∷ ms) = ap suc (counted_from trees (n + 1) ms)

pub symbols_counted : (trees : List Tree) → length (symbols_of trees).machines ≡ length (machines_of trees)
unfolding symbols_of
symbols_counted trees = counted_from trees 0 (machines_of trees)

all_from : (P : MachineSymbols → Type 0) (trees : List Tree) (n : ℕ) (ms : List Machine) → ((k : ℕ) (m : Machine) → slice_get ms k ≡ Some m → P (machine_symbols trees (n + k) m)) → All P (machines_from trees n ms)
all_from P trees n [] h = All-nil P
all_from P trees n (m ∷ ms) h =
    let first : n + zero ≡ n = add-zero n in
    All-cons P (machine_symbols trees n m) (machines_from trees (n + 1) ms) (subst (λ k. P (machine_symbols trees k m)) first (h zero m refl))
    (all_from P trees (n + 1) ms (λ k l at. let sum : n + suc k ≡ n + 1 + k = omega arith in subst (λ j. P (machine_symbols trees j l)) sum (h (suc k) l at)))

pub all_machines : (P : MachineSymbols → Type 0) (trees : List Tree) → ((k : ℕ) (m : Machine) → slice_get (machines_of trees) k ≡ Some m → P (machine_symbols trees k m)) → All P (symbols_of trees).machines
unfolding symbols_of
all_machines P trees h =
    all_from P trees 0 (machines_of trees) (λ k m at. let sum : k ≡ 0 + k = omega arith in subst (λ j. P (machine_symbols trees j m)) sum (h k m at))

-- what breaks no rule in each machine breaks none in one
pub none_in_one : (f : ℕ → Machine → List Broken) (n : ℕ) (ms : List Machine) (k : ℕ) (m : Machine) → in_each_from n f ms ≡ [] → slice_get ms k ≡ Some m → f (n + k) m ≡ []
none_in_one f n [] k m e at = cc
none_in_one f n (l ∷ ms) zero m e at =
    let same : l ≡ m = cc in
    let first : n ≡ n + zero = sym (add-zero n) in
    subst (λ j. f j m ≡ []) first (subst (λ z. f n z ≡ []) same (left_none (f n l) (in_each_from (n + 1) f ms) e))
none_in_one f n (l ∷ ms) (suc k) m e at =
    let sum : n + 1 + k ≡ n + suc k = omega arith in
    subst (λ j. f j m ≡ []) sum (none_in_one f (n + 1) ms k m (right_none (f n l) (in_each_from (n + 1) f ms) e) at)
