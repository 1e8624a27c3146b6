-- The ports of machines, of one more after the others.
use Rattle.std.proofs.Common.{◌≡◌, ◌++◌, ◌+◌, ◌<◌, ℕ, List, [], ◌∷◌, length, map, slice_index_or, take, sym, ◌∙◌, ap, arith, add-one, add-zero, append-nil, append_assoc}
use Rattle.std.proofs.Math.Seq.{take-suc}
use Rattle.std.proofs.lemmas.List.{map-append}
use Rattle.std.proofs.lemmas.Grind.{common_steps}
use Rattle.slicc_ast.specs.declared.tree.item.Tree.{Tree}
use Rattle.slicc_ast.specs.declared.tree.machine.Machine.{Machine}
use Rattle.slicc_plan.specs.Prelude.{ports_of, all_ports_from}

ports_more : (trees : List Tree) (n : ℕ) (ms : List Machine) (m : Machine) → all_ports_from trees n (ms ++ m ∷ []) ≡ all_ports_from trees n ms ++ ports_of trees (n + length ms) m
ports_more trees n [] m = append-nil (ports_of trees n m) ∙ ap (λ k. ports_of trees k m) (sym (add-zero n))
ports_more trees n (l ∷ ms) m =
    let sum : n + 1 + length ms ≡ n + length (l ∷ ms) = omega arith in
    ap (λ ps. ports_of trees n l ++ ps) (ports_more trees (n + 1) ms m ∙ ap (λ k. all_ports_from trees (n + 1) ms ++ ports_of trees k m) sum)
    ∙ sym (append_assoc (ports_of trees n l) (all_ports_from trees (n + 1) ms) (ports_of trees (n + length (l ∷ ms)) m))

pub ports_step : {X : Type 0} (f : X → Machine) (trees : List Tree) (xs : List X) (i : ℕ) (x : X) → i < length xs → x ≡ slice_index_or xs i x
    → all_ports_from trees 0 (map f (take (i + 1) xs)) ≡ all_ports_from trees 0 (map f (take i xs)) ++ ports_of trees i (f x)
ports_step f trees xs i x below is =
    let taken : take (i + 1) xs ≡ take i xs ++ x ∷ [] = rw (add-one, take-suc xs i x below) (ap (λ y. take i xs ++ y ∷ []) (sym is)) in
    let count : 0 + length (map f (take i xs)) ≡ i = grind (arith, common_steps) in
    ap (λ ys. all_ports_from trees 0 (map f ys)) taken ∙ ap (all_ports_from trees 0) (map-append f (take i xs) (x ∷ []))
    ∙ ports_more trees 0 (map f (take i xs)) (f x) ∙ ap (λ k. all_ports_from trees 0 (map f (take i xs)) ++ ports_of trees k (f x)) count
