-- The members of a set that is kept as an ascending list, each put into a set in turn, are that list again.
use Rattle.std.proofs.Common.{◌≡◌, ◌<◌, ◌++◌, ℕ, All, List, [], ◌∷◌, get_or, nat_lt, refl, sym, ap, ◌∙◌, append_assoc, arith}
use Rattle.std.proofs.lemmas.Bool.{le-ltb, lt-ltb}
use Rattle.std.proofs.lemmas.List.{append-nil}
use Rattle.std.proofs.lemmas.List.Elements.{All-head, All-nil, All-push, All-tail, All-weaker}
use Rattle.std.proofs.lemmas.List.Kept.{AllPairs-from_increasing}
use Rattle.std.specs.List.{AllPairs, fold}
use Rattle.std.specs.List.Sorted.{IsStrictlyIncreasing}
use Rattle.ruby_value.proofs.Ordered.{AllPairs-head, AllPairs-tail}
use Rattle.ruby_value.specs.Prelude.{with_member}
use Rattle.stall_map.proofs.Placed.{filter-all, filter-none}

-- one above all others is the last
last-member : (ys : List ℕ) (x : ℕ) → All (λ y. y < x) ys → with_member ys x ≡ ys ++ x ∷ []
last-member ys x below =
    rw (
      filter-all (λ o. nat_lt o x) ys (λ k d within. lt-ltb (get_or ys k d) x (below k d within)),
      filter-none (λ o. nat_lt x o) ys (λ k d within. le-ltb x (get_or ys k d) (let so : get_or ys k d < x = below k d within in omega arith)),
    ) refl

onto : (ys xs : List ℕ) → AllPairs (λ a b. a < b) xs → All (λ y. All (λ x. y < x) xs) ys → fold with_member ys xs ≡ ys ++ xs
onto ys [] pairs below = sym (append-nil ys)
onto ys (x ∷ xs) pairs below =
    let first : All (λ y. y < x) ys = All-weaker (λ y. All (λ z. y < z) (x ∷ xs)) (λ y. y < x) (λ y all. All-head (λ z. y < z) x xs all) ys below in
    let rest : All (λ y. All (λ z. y < z) xs) (ys ++ x ∷ []) =
    All-push (λ y. All (λ z. y < z) xs) ys x
    (All-weaker (λ y. All (λ z. y < z) (x ∷ xs)) (λ y. All (λ z. y < z) xs) (λ y all. All-tail (λ z. y < z) x xs all) ys below) (AllPairs-head (λ a b. a < b) x xs pairs) in
    ap (λ (zs : List ℕ). fold with_member zs xs) (last-member ys x first)
    ∙ (onto (ys ++ x ∷ []) xs (AllPairs-tail (λ a b. a < b) x xs pairs) rest ∙ append_assoc ys (x ∷ []) xs)

pub collected : (members : List ℕ) → IsStrictlyIncreasing members → fold with_member [] members ≡ members
collected members rises = onto [] members (AllPairs-from_increasing members rises) (All-nil (λ y. All (λ x. y < x) members))
