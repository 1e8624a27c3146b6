-- The turns of a loop that compares two lists: what it has left says the same as the whole lists.
use Rattle.std.proofs.Common.{◌≡◌, ◌==◌, ◌&&◌, ◌∙◌, ◌+◌, ◌-◌, ◌<◌, ◌≤◌, ℕ, Bool, true, false, List, [], ◌∷◌, length, suc, get_or, drop, take, add-one, sym, ap, arith, rules}
use Rattle.std.proofs.Math.Seq.{drop-cons}
use Rattle.std.proofs.lemmas.List.{drop_all, take_all}
use Rattle.slicc_same.specs.Prelude.{all_alike}

-- with the items in hand before the rest
opened : {A : Type 0} (one : A → A → Bool) (xs zs : List A) (i : ℕ) (x y z : A) (whole : Bool)
    → whole ≡ all_alike one (drop i xs) (z ∷ zs) → i < length xs → x ≡ get_or xs i x → y ≡ z → whole ≡ one x y && all_alike one (drop (i + 1) xs) zs
opened one xs zs i x y z whole is more first second =
    is ∙ ap (λ l. all_alike one l (z ∷ zs)) (drop-cons xs i x more) ∙ ap (λ w. one w z && all_alike one (drop (suc i) xs) zs) (sym first)
    ∙ ap (λ w. one x w && all_alike one (drop (suc i) xs) zs) (sym second) ∙ ap (λ n. one x y && all_alike one (drop n xs) zs) (sym (add-one i))

pub next_turn : {A : Type 0} (one : A → A → Bool) (xs right : List A) (i : ℕ) (x y : A) (r whole : Bool)
    → whole ≡ all_alike one (drop i xs) right → i < length xs → x ≡ get_or xs i x → 1 ≤ length right → y ≡ get_or right 0 y
    → r ≡ one x y → r ≡ true → whole ≡ all_alike one (drop (i + 1) xs) (take (length right - 1) (drop 1 right))
next_turn one xs [] i x y r whole is more first some second asked so = absurd (omega arith)
next_turn one xs (z ∷ zs) i x y r whole is more first some second asked so =
    opened one xs zs i x y z whole is more first second ∙ ap (λ b. b && all_alike one (drop (i + 1) xs) zs) (sym asked ∙ so)
    ∙ ap (all_alike one (drop (i + 1) xs)) (sym (take_all (length (z ∷ zs) - 1) zs (omega arith)))

pub unlike_turn : {A : Type 0} (one : A → A → Bool) (xs right : List A) (i : ℕ) (x y : A) (r whole : Bool)
    → whole ≡ all_alike one (drop i xs) right → i < length xs → x ≡ get_or xs i x → 1 ≤ length right → y ≡ get_or right 0 y
    → r ≡ one x y → r ≡ false → false ≡ whole
unlike_turn one xs [] i x y r whole is more first some second asked so = absurd (omega arith)
unlike_turn one xs (z ∷ zs) i x y r whole is more first some second asked so =
    sym (opened one xs zs i x y z whole is more first second ∙ ap (λ b. b && all_alike one (drop (i + 1) xs) zs) (sym asked ∙ so))

pub right_ends : {A : Type 0} (one : A → A → Bool) (xs right : List A) (i : ℕ) (x : A) (whole : Bool)
    → whole ≡ all_alike one (drop i xs) right → i < length xs → length right < 1 → false ≡ whole
right_ends one xs [] i x whole is more none = sym (is ∙ ap (λ l. all_alike one l []) (drop-cons xs i x more))
right_ends one xs (z ∷ zs) i x whole is more none = absurd (omega arith)

pub left_ends : {A : Type 0} (one : A → A → Bool) (xs right : List A) (i : ℕ) (r whole : Bool)
    → whole ≡ all_alike one (drop i xs) right → length xs ≤ i → r ≡ (length right == 0) → r ≡ whole
left_ends one xs [] i r whole is all empty = empty ∙ sym (is ∙ ap (λ l. all_alike one l []) (drop_all i xs all))
left_ends one xs (z ∷ zs) i r whole is all empty =
    let some : (length (z ∷ zs) == 0) ≡ false = search rules in
    empty ∙ some ∙ sym (is ∙ ap (λ l. all_alike one l (z ∷ zs)) (drop_all i xs all))
