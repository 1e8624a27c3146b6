-- A list with its last element first.
use Rattle.std.proofs.Common.{◌≡◌, ◌<◌, ◌+◌, ℕ, List, [], ◌∷◌, ◌++◌, length, get_or, reverse, take, ap, ◌∙◌}
use Rattle.std.proofs.lemmas.List.{reverse-append, take_more}

module _ {X : Type 0} where
  pub reverse_push : (xs : List X) (x : X) → reverse (xs ++ x ∷ []) ≡ x ∷ reverse xs
  reverse_push xs x = reverse-append xs (x ∷ [])

  pub reverse_more : (xs : List X) (i : ℕ) (d : X) → i < length xs → reverse (take (i + 1) xs) ≡ get_or xs i d ∷ reverse (take i xs)
  reverse_more xs i d below = ap reverse (take_more xs i d below) ∙ reverse_push (take i xs) (get_or xs i d)
