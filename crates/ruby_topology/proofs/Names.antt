-- A text is a name with something after it where it begins with the name and goes on with that.
use Rattle.std.proofs.Common.{◌≡◌, ◌≤◌, ◌&&◌, ◌++◌, ◌∙◌, ℕ, true, false, eqb, List, [], ◌∷◌, length, take, drop, ap, refl, sym, arith}
use Rattle.std.specs.Str.{bytes_eq}

name_cut : (name tail text : List ℕ) → length name ≤ length text → bytes_eq (name ++ tail) text ≡ (bytes_eq name (take (length name) text) && bytes_eq tail (drop (length name) text))
name_cut [] tail text inside = refl
name_cut (x ∷ xs) tail [] inside = absurd (omega arith)
name_cut (x ∷ xs) tail (y ∷ ys) inside =
    let rest = name_cut xs tail ys (omega arith) in
    elim (eqb x y) as (λ b. (b && bytes_eq (xs ++ tail) ys) ≡ ((b && bytes_eq xs (take (length xs) ys)) && bytes_eq tail (drop (length xs) ys))) [
      | true ↦ rest
      | false ↦ refl
    ]

pub same_front : (name tail text front back : List ℕ) → length name ≤ length text → front ≡ take (length name) text → back ≡ drop (length name) text → bytes_eq name front ≡ true → bytes_eq tail back ≡ bytes_eq (name ++ tail) text
same_front name tail text front back inside is_front is_back same =
    let begins : bytes_eq name (take (length name) text) ≡ true = sym (ap (bytes_eq name) is_front) ∙ same in
    ap (bytes_eq tail) is_back ∙ sym (name_cut name tail text inside ∙ ap (λ b. b && bytes_eq tail (drop (length name) text)) begins)

pub other_front : (name tail text front : List ℕ) → length name ≤ length text → front ≡ take (length name) text → bytes_eq name front ≡ false → false ≡ bytes_eq (name ++ tail) text
other_front name tail text front inside is_front other =
    let begins : bytes_eq name (take (length name) text) ≡ false = sym (ap (bytes_eq name) is_front) ∙ other in
    sym (name_cut name tail text inside ∙ ap (λ b. b && bytes_eq tail (drop (length name) text)) begins)
