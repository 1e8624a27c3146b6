-- The first element of a list that passes a test stands at the place that was reached.
use Rattle.std.proofs.Common.{◌≡◌, ◌∙◌, ℕ, ◌+◌, ◌<◌, Bool, true, Some, List, ◌∷◌, length, drop, cond, ap, sym}
use Rattle.std.proofs.Math.ListN.{get_or}
use Rattle.std.proofs.lemmas.List.{drop_more}
use Rattle.std.proofs.lemmas.Iterator.Adapters.{position_from-zero}
use Rattle.std.specs.List.{position, position_from}

pub position_here : {X : Type 0} (p : X → Bool) (xs : List X) (x : X) (i : ℕ) → i < length xs → x ≡ get_or xs i x → p x ≡ true
    → position_from p i (drop i xs) ≡ position_from p 0 xs → position p xs ≡ Some i
position_here {X} p xs x i within is passes first =
    let here : drop i xs ≡ x ∷ drop (i + 1) xs = drop_more xs i x within ∙ ap (λ (y : X). y ∷ drop (i + 1) xs) (sym is) in
    position_from-zero p xs ∙ sym first
    ∙ ap (λ (ys : List X). position_from p i ys) here
    ∙ ap (λ (b : Bool). cond b (Some i) (position_from p (i + 1) (drop (i + 1) xs))) passes
