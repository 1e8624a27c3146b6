-- The number that digits stand for is at least that of the first of them.
use Rattle.std.proofs.Common.{◌≡◌, ◌+◌, ◌*◌, ◌<◌, ◌≤◌, ℕ, List, [], ◌∷◌, take, drop, sym, ap, ◌∙◌, arith, fold, length, get_or, take-append-drop, subst}
use Rattle.std.proofs.Math.Nat.{le_trans, le-mul_of_pos_right}
use Rattle.std.proofs.lemmas.List.Sums.{fold_more, fold-append}
use Rattle.slicc_lex.specs.Prelude.{digit_value, number_of}

-- a further digit
abbrev pub further : ℕ → ℕ → ℕ → ℕ
further base n c = base * n + digit_value c

further_more : (base n : ℕ) → 1 ≤ base → n ≤ base * n
further_more base n some = omega (arith, le-mul_of_pos_right {m = base} n some)

fold_at_least : (base n : ℕ) (digits : List ℕ) → 1 ≤ base → n ≤ fold (further base) n digits
fold_at_least base n [] some = omega arith
fold_at_least base n (c ∷ cs) some =
    let more : n ≤ further base n c = omega (arith, further_more base n some) in
    le_trans more (fold_at_least base (further base n c) cs some)

-- the number after one more digit is at most the number of all of them
pub number_at_least : (base : ℕ) (digits : List ℕ) (i n : ℕ) → 1 ≤ base → i < length digits → n ≡ number_of base (take i digits) → base * n + digit_value (get_or digits i 0) ≤ number_of base digits
number_at_least base digits i n some inside is =
    let more : number_of base (take (i + 1) digits) ≡ further base (number_of base (take i digits)) (get_or digits i 0) = fold_more (further base) 0 digits i 0 inside in
    let all : number_of base digits ≡ fold (further base) (number_of base (take (i + 1) digits)) (drop (i + 1) digits) =
    ap (number_of base) (sym (take-append-drop (i + 1) digits)) ∙ fold-append (further base) 0 (take (i + 1) digits) (drop (i + 1) digits) in
    let least = fold_at_least base (number_of base (take (i + 1) digits)) (drop (i + 1) digits) some in
    subst (λ m. base * m + digit_value (get_or digits i 0) ≤ number_of base digits) (sym is) (omega (arith, least, all, more))
