-- A stack is kept from the bottom up and seen from the top down: what is compared, taken off and found in the one order and in the other.
use Rattle.std.proofs.Common.{◌≡◌, ℕ, ◌-◌, ◌<◌, ◌≤◌, Bool, true, false, ◌&&◌, List, [], ◌∷◌, ◌++◌, length, reverse, take, drop, refl, ap, sym, ◌∙◌, arith, inl, inr}
use Rattle.std.proofs.lemmas.Bool.{cases_lt}
use Rattle.std.proofs.lemmas.List.{drop_all, drop_at, length-drop, length-reverse, reverse-append, take-append-drop}
use Rattle.std.specs.Cmp.Lexicographic.{pointwise}
use Rattle.ruby_value.specs.declared.kind.Kind.{Kind}
use Rattle.ruby_value.specs.Prelude.{equal_kinds, same_kinds}

and_swap : (a b : Bool) → (a && b) ≡ (b && a)
and_swap true true = refl
and_swap true false = refl
and_swap false true = refl
and_swap false false = refl

and_false : (a : Bool) → (a && false) ≡ false
and_false true = refl
and_false false = refl

and_assoc : (a b c : Bool) → (a && (b && c)) ≡ ((a && b) && c)
and_assoc true b c = refl
and_assoc false b c = refl

nothing_and_more : {A : Type 0} (E : A → A → Bool) (xs : List A) (x : A) → pointwise E [] (xs ++ x ∷ []) ≡ false
nothing_and_more E [] x = refl
nothing_and_more E (y ∷ xs) x = refl

more_and_nothing : {A : Type 0} (E : A → A → Bool) (xs : List A) (x : A) → pointwise E (xs ++ x ∷ []) [] ≡ false
more_and_nothing E [] x = refl
more_and_nothing E (y ∷ xs) x = refl

one_more : {A : Type 0} (E : A → A → Bool) (xs ys : List A) (x y : A)
    → pointwise E (xs ++ x ∷ []) (ys ++ y ∷ []) ≡ (pointwise E xs ys && E x y)
one_more E [] [] x y = and_swap (E x y) true
one_more E [] (z ∷ ys) x y = ap (λ b. E x z && b) (nothing_and_more E ys y) ∙ and_false (E x z)
one_more E (z ∷ xs) [] x y = ap (λ b. E z y && b) (more_and_nothing E xs x) ∙ and_false (E z y)
one_more E (a ∷ xs) (b ∷ ys) x y = ap (λ c. E a b && c) (one_more E xs ys x y) ∙ and_assoc (E a b) (pointwise E xs ys) (E x y)

reverse_more : {A : Type 0} (x : A) (xs : List A) → reverse (x ∷ xs) ≡ reverse xs ++ x ∷ []
reverse_more x xs = reverse-append (x ∷ []) xs

pub pointwise_reverse : {A : Type 0} (E : A → A → Bool) (xs ys : List A) → pointwise E (reverse xs) (reverse ys) ≡ pointwise E xs ys
pointwise_reverse E [] [] = refl
pointwise_reverse E [] (y ∷ ys) = ap (pointwise E []) (reverse_more y ys) ∙ nothing_and_more E (reverse ys) y
pointwise_reverse E (x ∷ xs) [] = ap (λ l. pointwise E l []) (reverse_more x xs) ∙ more_and_nothing E (reverse xs) x
pointwise_reverse E (x ∷ xs) (y ∷ ys) =
    ap (λ l. pointwise E l (reverse (y ∷ ys))) (reverse_more x xs)
    ∙ ap (pointwise E (reverse xs ++ x ∷ [])) (reverse_more y ys)
    ∙ one_more E (reverse xs) (reverse ys) x y
    ∙ and_swap (pointwise E (reverse xs) (reverse ys)) (E x y)
    ∙ ap (λ b. E x y && b) (pointwise_reverse E xs ys)

same_kinds-pointwise : (xs ys : List Kind) → same_kinds xs ys ≡ pointwise equal_kinds xs ys
same_kinds-pointwise [] [] = refl
same_kinds-pointwise [] (y ∷ ys) = refl
same_kinds-pointwise (x ∷ xs) [] = refl
same_kinds-pointwise (x ∷ xs) (y ∷ ys) = ap (λ b. equal_kinds x y && b) (same_kinds-pointwise xs ys)

pub same_kinds_reverse : (xs ys : List Kind) → same_kinds (reverse xs) (reverse ys) ≡ same_kinds xs ys
same_kinds_reverse xs ys =
    same_kinds-pointwise (reverse xs) (reverse ys) ∙ pointwise_reverse equal_kinds xs ys ∙ sym (same_kinds-pointwise xs ys)

beyond : {A : Type 0} (xs : List A) (n : ℕ) → length xs < n → reverse (take (length xs - n) xs) ≡ drop n (reverse xs)
beyond xs n h =
    let none : length xs - n ≡ 0 = omega (arith, h) in
    let all : drop n (reverse xs) ≡ [] = drop_all n (reverse xs) (omega (arith, h, length-reverse xs)) in
    ap (λ k. reverse (take k xs)) none ∙ sym all

within : {A : Type 0} (xs : List A) (n : ℕ) → n ≤ length xs → reverse (take (length xs - n) xs) ≡ drop n (reverse xs)
within xs n h =
    let k = length xs - n in
    let parts : reverse xs ≡ reverse (drop k xs) ++ reverse (take k xs) = ap reverse (sym (take-append-drop k xs)) ∙ reverse-append (take k xs) (drop k xs) in
    let many : length (reverse (drop k xs)) ≡ n = length-reverse (drop k xs) ∙ length-drop k xs ∙ omega (arith, h) in
    sym (ap (drop n) parts ∙ drop_at (reverse (drop k xs)) (reverse (take k xs)) n many)

pub reverse_take : {A : Type 0} (xs : List A) (n : ℕ) → reverse (take (length xs - n) xs) ≡ drop n (reverse xs)
reverse_take xs n = elim (cases_lt (length xs) n) [ inl h ↦ beyond xs n h | inr h ↦ within xs n h ]
