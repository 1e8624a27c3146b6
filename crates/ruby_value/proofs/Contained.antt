-- What a list contains is its first element or one of the rest, and both are contained.
use Rattle.std.proofs.Common.{◌≡◌, ◌⊎◌, zero, suc, List, ◌∷◌, Contains, inl, inr, refl, arith}

pub Contains-cons_cases : {X : Type 0} (y x : X) (ys : List X) → Contains (y ∷ ys) x → (y ≡ x) ⊎ Contains ys x
Contains-cons_cases y x ys (zero, within, is) = inl is
Contains-cons_cases y x ys (suc k, within, is) = inr (k, omega arith, is)

pub Contains-cons_here : {X : Type 0} (x : X) (xs : List X) → Contains (x ∷ xs) x
Contains-cons_here x xs = (0, omega arith, refl)

pub Contains-cons_there : {X : Type 0} (y x : X) (ys : List X) → Contains ys x → Contains (y ∷ ys) x
Contains-cons_there y x ys has = (suc has.0, omega (arith, has.1), has.2)
