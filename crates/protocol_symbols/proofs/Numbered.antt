-- Lists whose elements are made by their numbers, one more after the others.
use Rattle.std.proofs.Common.{◌≡◌, ◌++◌, ◌+◌, ◌<◌, ℕ, zero, suc, Some, List, [], ◌∷◌, drop, length, map, slice_get, slice_index_or, take, sym, ◌∙◌, ap, arith, add-one, add-zero, append-nil, append_assoc}
use Rattle.std.proofs.Math.Seq.{drop-cons, take-suc}
use Rattle.std.proofs.lemmas.List.{map-append}
use Rattle.std.proofs.lemmas.Grind.{common_steps}
use Rattle.slicc_ast.specs.declared.tree.item.Tree.{Tree}
use Rattle.slicc_ast.specs.declared.tree.machine.Machine.{Machine}
use Rattle.slicc_plan.specs.declared.row.Written.{Written}
use Rattle.slicc_plan.specs.Prelude.{machines_from, machine_symbols, numbered_from, written_of}

numbered_more : {X Y : Type 0} (f : ℕ → X → List Y) (n : ℕ) (xs : List X) (x : X) → numbered_from f n (xs ++ x ∷ []) ≡ numbered_from f n xs ++ f (n + length xs) x
numbered_more f n [] x = append-nil (f n x) ∙ ap (λ k. f k x) (sym (add-zero n))
numbered_more f n (y ∷ xs) x =
    let sum : n + 1 + length xs ≡ n + length (y ∷ xs) = omega arith in
    ap (λ ys. f n y ++ ys) (numbered_more f (n + 1) xs x ∙ ap (λ k. numbered_from f (n + 1) xs ++ f k x) sum)
    ∙ sym (append_assoc (f n y) (numbered_from f (n + 1) xs) (f (n + length (y ∷ xs)) x))

counted : {X : Type 0} (xs : List X) (i : ℕ) → i < length xs → 0 + length (take i xs) ≡ i
counted xs i below = grind (arith, common_steps)

-- what is made of the first elements, with one more of them
numbered_step : {X Y : Type 0} (f : ℕ → X → List Y) (xs : List X) (i : ℕ) (x : X) → i < length xs → x ≡ slice_index_or xs i x
    → numbered_from f 0 (take (i + 1) xs) ≡ numbered_from f 0 (take i xs) ++ f i x
numbered_step f xs i x below is =
    let taken : take (i + 1) xs ≡ take i xs ++ x ∷ [] = rw (add-one, take-suc xs i x below) (ap (λ y. take i xs ++ y ∷ []) (sym is)) in
    ap (numbered_from f 0) taken ∙ numbered_more f 0 (take i xs) x ∙ ap (λ k. numbered_from f 0 (take i xs) ++ f k x) (counted xs i below)

pub list_step : {X Y : Type 0} (f : ℕ → X → List Y) (xs : List X) (i : ℕ) (x : X) (old now new : List Y) → i < length xs → x ≡ slice_index_or xs i x
    → new ≡ now ++ f i x → now ≡ old ++ numbered_from f 0 (take i xs) → new ≡ old ++ numbered_from f 0 (take (i + 1) xs)
list_step f xs i x old now new below is more was =
    more ∙ ap (λ ys. ys ++ f i x) was ∙ append_assoc old (numbered_from f 0 (take i xs)) (f i x) ∙ ap (λ ys. old ++ ys) (sym (numbered_step f xs i x below is))

machines_more : (trees : List Tree) (n : ℕ) (ms : List Machine) (m : Machine) → machines_from trees n (ms ++ m ∷ []) ≡ machines_from trees n ms ++ machine_symbols trees (n + length ms) m ∷ []
machines_more trees n [] m = ap (λ k. machine_symbols trees k m ∷ []) (sym (add-zero n))
machines_more trees n (l ∷ ms) m =
    let sum : n + 1 + length ms ≡ n + length (l ∷ ms) = omega arith in
    ap (λ xs. machine_symbols trees n l ∷ xs) (machines_more trees (n + 1) ms m)
    ∙ ap (λ k. machine_symbols trees n l ∷ (machines_from trees (n + 1) ms ++ machine_symbols trees k m ∷ [])) sum

mapped_count : {X : Type 0} (f : X → Machine) (xs : List X) (i : ℕ) → i < length xs → 0 + length (map f (take i xs)) ≡ i
mapped_count f xs i below = grind (arith, common_steps)

pub machines_step : {X : Type 0} (f : X → Machine) (trees : List Tree) (xs : List X) (i : ℕ) (x : X) → i < length xs → x ≡ slice_index_or xs i x
    → machines_from trees 0 (map f (take (i + 1) xs)) ≡ machines_from trees 0 (map f (take i xs)) ++ machine_symbols trees i (f x) ∷ []
machines_step f trees xs i x below is =
    let taken : take (i + 1) xs ≡ take i xs ++ x ∷ [] = rw (add-one, take-suc xs i x below) (ap (λ y. take i xs ++ y ∷ []) (sym is)) in
    ap (λ ys. machines_from trees 0 (map f ys)) taken ∙ ap (machines_from trees 0) (map-append f (take i xs) (x ∷ []))
    ∙ machines_more trees 0 (map f (take i xs)) (f x) ∙ ap (λ k. machines_from trees 0 (map f (take i xs)) ++ machine_symbols trees k (f x) ∷ []) (mapped_count f xs i below)

-- four elements, added one after another
pub four_added : {X : Type 0} (old l1 l2 l3 l4 : List X) (a b c d : X) → l1 ≡ old ++ a ∷ [] → l2 ≡ l1 ++ b ∷ [] → l3 ≡ l2 ++ c ∷ [] → l4 ≡ l3 ++ d ∷ [] → l4 ≡ old ++ (a ∷ b ∷ c ∷ d ∷ [])
four_added old l1 l2 l3 l4 a b c d p q r s =
    s ∙ ap (λ xs. xs ++ d ∷ []) (r ∙ ap (λ xs. xs ++ c ∷ []) (q ∙ ap (λ xs. xs ++ b ∷ []) p))
    ∙ append_assoc ((old ++ a ∷ []) ++ b ∷ []) (c ∷ []) (d ∷ []) ∙ append_assoc (old ++ a ∷ []) (b ∷ []) (c ∷ d ∷ []) ∙ append_assoc old (a ∷ []) (b ∷ c ∷ d ∷ [])

-- the transitions that are left begin with those of the next machine
pub first_left : {X : Type 0} (f : X → Machine) (xs : List X) (i : ℕ) (x : X) (left : List (List Written)) → i < length xs → x ≡ slice_index_or xs i x
    → left ≡ map written_of (map f (drop i xs)) → left ≡ written_of (f x) ∷ map written_of (map f (drop (i + 1) xs))
first_left f xs i x left below is are =
    let next : suc i ≡ i + 1 = omega arith in
    are ∙ ap (λ ys. map written_of (map f ys)) (drop-cons xs i x below ∙ ap (λ y. y ∷ drop (suc i) xs) (sym is) ∙ ap (λ n. x ∷ drop n xs) next)

pub machine_at : {X : Type 0} (f : X → Machine) (xs : List X) (i : ℕ) (x : X) → i < length xs → x ≡ slice_index_or xs i x → slice_get (map f xs) i ≡ Some (f x)
machine_at f [] i x below is = absurd (none i below)
  where
    none : (i : ℕ) → i < 0 → ⊥
    none i below = omega arith
machine_at f (y ∷ ys) zero x below is = ap (λ z. Some (f z)) (sym is)
machine_at f (y ∷ ys) (suc i) x below is = machine_at f ys i x (omega arith) is
