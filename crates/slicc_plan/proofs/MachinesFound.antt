-- The machine of a number, by the machines of each file.
use Rattle.std.proofs.Common.{◌≡◌, ◌++◌, ◌+◌, ◌-◌, ◌≤◌, ◌<◌, ℕ, zero, suc, Option, Some, List, [], ◌∷◌, refl, sym, subst, ap, ◌∙◌, arith, drop, take, length, slice_get, slice_index_or, flat_map}
use Rattle.std.proofs.lemmas.Grind.{flat_map-append}
use Rattle.std.proofs.lemmas.List.{take_all}
use Rattle.slicc_ast.specs.declared.tree.item.Item.{Item}
use Rattle.slicc_ast.specs.declared.tree.item.Item.TheVariants.{Include, Enumeration, Structure, Machine as MachineItem}
use Rattle.slicc_ast.specs.declared.tree.item.Tree.{Tree}
use Rattle.slicc_ast.specs.declared.tree.machine.Machine.{Machine}
use Rattle.slicc_plan.specs.Prelude.{global_declarations, item_declarations, machine_in, machines_of, machines_among}

pub get_in_first : {X : Type 0} (xs ys : List X) (n : ℕ) (x : X) → slice_get xs n ≡ Some x → slice_get (xs ++ ys) n ≡ Some x
get_in_first [] ys n x e = cc
get_in_first (w ∷ xs) ys zero x e = e
get_in_first (w ∷ xs) ys (suc n) x e = get_in_first xs ys n x e

pub get_in_second : {X : Type 0} (xs ys : List X) (left n : ℕ) → left + length xs ≡ n → slice_get (xs ++ ys) n ≡ slice_get ys left
get_in_second [] ys left n e = ap (λ k. slice_get ys k) (sym (omega (arith, e)))
get_in_second (x ∷ xs) ys left zero e = absurd (omega (arith, e))
get_in_second (x ∷ xs) ys left (suc n) e = get_in_second xs ys left n (omega (arith, e))

pub machines_first : (t : Tree) (ts : List Tree) → machines_of (t ∷ ts) ≡ machines_among t.items ++ machines_of ts
machines_first t ts = flat_map-append machine_in (flat_map item_declarations t.items) (global_declarations ts)

pub in_first : (trees : List Tree) (t d : Tree) (items : List Item) (n : ℕ) (m : Machine) → 1 ≤ length trees → t ≡ slice_index_or trees 0 d → items ≡ t.items → slice_get (machines_among items) n ≡ Some m → Some m ≡ slice_get (machines_of trees) n
in_first [] t d items n m some is same found = absurd (omega (arith, some))
in_first (u ∷ ts) t d items n m some is same found =
    let here : slice_get (machines_among u.items) n ≡ Some m = subst (λ (v : Tree). slice_get (machines_among v.items) n ≡ Some m) is (subst (λ xs. slice_get (machines_among xs) n ≡ Some m) same found) in
    sym (subst (λ ms. slice_get ms n ≡ Some m) (sym (machines_first u ts)) (get_in_first (machines_among u.items) (machines_of ts) n m here))

pub in_others : (trees : List Tree) (t d : Tree) (items : List Item) (n left : ℕ) (o : Option Machine) → 1 ≤ length trees → t ≡ slice_index_or trees 0 d → items ≡ t.items → left + length (machines_among items) ≡ n → o ≡ slice_get (machines_of (take (length trees - 1) (drop 1 trees))) left → o ≡ slice_get (machines_of trees) n
in_others [] t d items n left o some is same passed found = absurd (omega (arith, some))
in_others (u ∷ ts) t d items n left o some is same passed found =
    let here : left + length (machines_among u.items) ≡ n = subst (λ (v : Tree). left + length (machines_among v.items) ≡ n) is (subst (λ xs. left + length (machines_among xs) ≡ n) same passed) in
    let rest : take (length (u ∷ ts) - 1) ts ≡ ts = take_all (length (u ∷ ts) - 1) ts (omega arith) in
    subst (λ vs. o ≡ slice_get (machines_of vs) left) rest found
    ∙ sym (subst (λ ms. slice_get ms n ≡ slice_get (machines_of ts) left) (sym (machines_first u ts)) (get_in_second (machines_among u.items) (machines_of ts) left n here))

-- the item at a place is a machine, and so many machines are before it
pub found_at : (items : List Item) (i : ℕ) (d : Item) (m : Machine) (n left : ℕ) → i < length items → d ≡ slice_index_or items i d → d ≡ MachineItem m → left ≡ 0 → left + length (machines_among (take i items)) ≡ n → slice_get (machines_among items) n ≡ Some m
found_at [] i d m n left below at is none before = absurd (omega (arith, below))
found_at (x ∷ items) zero d m n left below at is none before =
    let x_is : x ≡ MachineItem m = sym at ∙ is in
    let n_is : n ≡ 0 = omega (arith, before, none) in
    subst (λ k. slice_get (machines_among (x ∷ items)) k ≡ Some m) (sym n_is) (subst (λ y. slice_get (machines_among (y ∷ items)) 0 ≡ Some m) (sym x_is) refl)
found_at (Include text span ∷ items) (suc i) d m n left below at is none before =
    found_at items i d m n left (omega (arith, below)) at is none before
found_at (Enumeration e ∷ items) (suc i) d m n left below at is none before =
    found_at items i d m n left (omega (arith, below)) at is none before
found_at (Structure s ∷ items) (suc i) d m n left below at is none before =
    found_at items i d m n left (omega (arith, below)) at is none before
found_at (MachineItem k ∷ items) (suc i) d m zero left below at is none before = absurd (omega (arith, before))
found_at (MachineItem k ∷ items) (suc i) d m (suc n) left below at is none before =
    found_at items i d m n left (omega (arith, below)) at is none (omega (arith, before))
