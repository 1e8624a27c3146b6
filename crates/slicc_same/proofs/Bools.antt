-- Rows of Booleans that are joined by `and`, in another grouping.
use Rattle.std.proofs.Common.{◌≡◌, ◌&&◌, Bool, true, false, List, refl, sym, ap, ◌∙◌}
use Rattle.slicc_same.specs.Prelude.{all_alike}

pub and_true : (a : Bool) → a && true ≡ a
and_true true = refl
and_true false = refl

pub and_false : (a : Bool) → a && false ≡ false
and_false true = refl
and_false false = refl

pub second_false : (a b : Bool) → b ≡ false → false ≡ a && b
second_false a b is = sym (ap (λ x. a && x) is ∙ and_false a)

pub and_grouped : (a b c : Bool) → a && (b && c) ≡ (a && b) && c
and_grouped true b c = refl
and_grouped false b c = refl

-- what `first && second` is, by whether the second was asked
pub both_asked : (r first second v x : Bool) → r ≡ first → r ≡ true → v ≡ x → x ≡ second → v ≡ first && second
both_asked r first second v x e is w g = w ∙ g ∙ ap (λ b. b && second) (sym is ∙ e)

pub first_asked : (r first second v : Bool) → r ≡ first → r ≡ false → v ≡ r → v ≡ first && second
first_asked r first second v e is w = w ∙ is ∙ ap (λ b. b && second) (sym is ∙ e)

-- what a comparison of lists answers, by what else says the same
pub listed : {A : Type 0} (one : A → A → Bool) (xs ys as_lent bs_lent : List A) (r whole : Bool)
    → r ≡ all_alike one as_lent bs_lent → as_lent ≡ xs → bs_lent ≡ ys → whole ≡ all_alike one xs ys → r ≡ whole
listed one xs ys as_lent bs_lent r whole is a b same =
    is ∙ ap (λ l. all_alike one l bs_lent) a ∙ ap (λ l. all_alike one xs l) b ∙ sym same
