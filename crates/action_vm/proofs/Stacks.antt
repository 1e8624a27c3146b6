-- A stack is kept from the bottom up and seen from the top down.
use Rattle.std.proofs.Common.{◌≡◌, ◌+◌, ◌-◌, Option, None, Some, List, [], ◌∷◌, ◌++◌, MatchOption, length, length-append, reverse, slice_get, option_to_list, refl, ap, sym, ◌∙◌, arith}
use Rattle.std.proofs.lemmas.List.{reverse-append, reverse-reverse}
use Rattle.action_vm.specs.Stacks.{Popped}

pub reverse_push : {A : Type 0} (items : List A) (x : A) → reverse (items ++ x ∷ []) ≡ x ∷ reverse items
reverse_push items x = reverse-append items (x ∷ [])

at_end : {A : Type 0} (zs : List A) (z : A) → slice_get (zs ++ z ∷ []) (length zs) ≡ Some z
at_end [] z = refl
at_end (x ∷ zs) z = at_end zs z

nothing_left : {A : Type 0} (xs : List A) → length xs ≡ 0 → xs ≡ []
nothing_left [] h = refl
nothing_left (x ∷ xs) h = absurd (cc h)

pub popped_is : {A : Type 0} (r : Option A) (old new : List A) → old ≡ new ++ option_to_list r → MatchOption r ((length old ≡ 0) × (length new ≡ 0)) (λ x. length new + 1 ≡ length old) → Popped r (reverse old) (reverse new)
popped_is None old new is none = (ap reverse (nothing_left old none.0), ap reverse (nothing_left new none.1))
popped_is (Some x) old new is some = ap reverse is ∙ reverse_push new x

-- the element on top is the last one
last_is : {A : Type 0} (ys xs : List A) → reverse ys ≡ xs → slice_get ys 0 ≡ slice_get xs (length xs - 1)
last_is {A} [] xs is = ap (λ (zs : List A). slice_get zs (length zs - 1)) is
last_is {A} (y ∷ ys) xs is =
    let parts : reverse ys ++ y ∷ [] ≡ xs = sym (reverse-append (y ∷ []) ys) ∙ is in
    sym (last_of (reverse ys) y) ∙ ap (λ (zs : List A). slice_get zs (length zs - 1)) parts
  where
    last_of : (zs : List A) (z : A) → slice_get (zs ++ z ∷ []) (length (zs ++ z ∷ []) - 1) ≡ Some z
    last_of zs z = let long : length (zs ++ z ∷ []) - 1 ≡ length zs = simp length-append (omega arith) in ap (slice_get (zs ++ z ∷ [])) long ∙ at_end zs z

pub top_is : {A : Type 0} (xs : List A) → slice_get xs (length xs - 1) ≡ slice_get (reverse xs) 0
top_is xs = sym (last_is (reverse xs) xs (reverse-reverse xs))
