-- What tokens cover.
use Rattle.std.proofs.Common.{◌≡◌, ℕ, suc, ◌-◌, ◌+◌, List, [], ◌∷◌, ◌++◌, length, take, refl, sym, subst, ap, ◌∙◌, arith, length-append, Some, zero}
use Rattle.std.specs.List.{slice_get}
use Rattle.std.proofs.Math.Seq.{take-append_seam}
use Rattle.slicc_ast.specs.declared.tree.span.Span.{Span}
use Rattle.slicc_ast.specs.Prelude.{covering, last_end}
use Rattle.slicc_lex.specs.declared.token.Token.{Token}
use Rattle.slicc_lex.specs.Prelude.{token_spans}
use Rattle.slicc_reading.specs.Prelude.{Covers}

own_is : (own tokens left : List Token) → tokens ≡ own ++ left → take (length tokens - length left) tokens ≡ own
own_is own tokens left is =
    let size : length tokens - length left ≡ length own = omega (arith, ap length is, length-append own left) in
    subst (λ n. take n tokens ≡ own) (sym size) (subst (λ ts. take (length own) ts ≡ own) (sym is) (take-append_seam own left))

-- one token covers what it does
pub token_covers : (t : Token) (tokens left : List Token) → tokens ≡ t ∷ left → Covers t.span tokens left
token_covers t tokens left is own split =
    let one : own ≡ t ∷ [] = sym (own_is own tokens left split) ∙ own_is (t ∷ []) tokens left is in
    subst (λ ts. t.span ≡ covering (token_spans ts)) (sym one) refl

pub taken_covers : (span : Span) (tokens left front : List Token) → front ≡ take (length tokens - length left) tokens → span ≡ covering (token_spans front) → Covers span tokens left
taken_covers span tokens left front is covers own split =
    let same : front ≡ own = is ∙ own_is own tokens left split in
    subst (λ ts. span ≡ covering (token_spans ts)) same covers

pub last_is : (others : List Token) (first : Span) (t : Token) (i : ℕ) → i + 1 ≡ length others → slice_get others i ≡ Some t → t.span.end ≡ last_end first (token_spans others)
last_is [] first t i size at = absurd (omega arith)
last_is (u ∷ []) first t zero size at = cc
last_is (u ∷ v ∷ others) first t zero size at = absurd (omega arith)
last_is (u ∷ others) first t (suc i) size at = last_is others u.span t i (omega arith) at

pub some_at : (others : List Token) (t : Token) → Some t ≡ slice_get others (length others - 1) → (length others - 1) + 1 ≡ length others
some_at [] t at = cc
some_at (u ∷ others) t at = omega arith
