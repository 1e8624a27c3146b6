-- Tokens that no literal begins with, and those that are neither of some kinds nor of others.
use Rattle.std.proofs.Common.{◌≡◌, ℕ, ◌==◌, Bool, true, false, ◌||◌, List, [], ◌∷◌, ◌++◌, refl, sym}
use Rattle.std.proofs.lemmas.Bool.{false≢true}
use Rattle.slicc_ast.specs.declared.tree.token.Sign.TheVariants.{Minus}
use Rattle.slicc_ast.specs.declared.tree.token.Word.TheVariants.{True, False}
use Rattle.slicc_ast.specs.Prelude.{has, is_ahead, first_of_form, kind_of, number, quoted, sign_kind, word_kind}
use Rattle.slicc_ast.specs.Form.Form.{literal}
use Rattle.slicc_lex.specs.declared.token.Token.{Token}
use Rattle.slicc_lex.specs.Prelude.{symbols}

none_of : (a b c d e : Bool) → a || false ≡ false → b || false ≡ false → c || false ≡ false → d || false ≡ false → e || false ≡ false → a || (b || (c || (d || (e || false)))) ≡ false
none_of false false false false false p q r s t = refl
none_of true b c d e p q r s t = p
none_of false true c d e p q r s t = q
none_of false false true d e p q r s t = r
none_of false false false true e p q r s t = s
none_of false false false false true p q r s t = t

none_has : (kind : ℕ) → has (number ∷ []) kind ≡ false → has (sign_kind Minus ∷ []) kind ≡ false → has (quoted ∷ []) kind ≡ false → has (word_kind True ∷ []) kind ≡ false → has (word_kind False ∷ []) kind ≡ false → has (first_of_form literal) kind ≡ false
none_has kind = none_of (number == kind) (sign_kind Minus == kind) (quoted == kind) (word_kind True == kind) (word_kind False == kind)

pub no_literal : (tokens : List Token) → is_ahead (number ∷ []) (symbols tokens) ≡ false → is_ahead (sign_kind Minus ∷ []) (symbols tokens) ≡ false → is_ahead (quoted ∷ []) (symbols tokens) ≡ false → is_ahead (word_kind True ∷ []) (symbols tokens) ≡ false → is_ahead (word_kind False ∷ []) (symbols tokens) ≡ false → is_ahead (first_of_form literal) (symbols tokens) ≡ false
no_literal [] p q r s t = refl
no_literal (first ∷ tokens) p q r s t = none_has (kind_of first.kind) p q r s t

-- none of some kinds and none of others
neither : (a b : Bool) → a ≡ false → b ≡ false → a || b ≡ false
neither false b p q = q
neither true b p q = p

first_not : (a b : Bool) → a || b ≡ false → (a ≡ false) × (b ≡ false)
first_not false b p = (refl, p)
first_not true b p = (p, absurd (false≢true (sym p)))

neither_has : (kinds others : List ℕ) (kind : ℕ) → has kinds kind ≡ false → has others kind ≡ false → has (kinds ++ others) kind ≡ false
neither_has [] others kind p q = q
neither_has (k ∷ kinds) others kind p q =
    let parts = first_not (k == kind) (has kinds kind) p in
    neither (k == kind) (has (kinds ++ others) kind) parts.0 (neither_has kinds others kind parts.1 q)

pub neither_ahead : (kinds others : List ℕ) (tokens : List Token) → is_ahead kinds (symbols tokens) ≡ false → is_ahead others (symbols tokens) ≡ false → is_ahead (kinds ++ others) (symbols tokens) ≡ false
neither_ahead kinds others [] p q = refl
neither_ahead kinds others (t ∷ tokens) p q = neither_has kinds others (kind_of t.kind) p q
