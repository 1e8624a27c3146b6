-- Words and signs by the numbers of their kinds: which one a number says, and that no other token has it.
use Rattle.std.proofs.Common.{rules, ◌≡◌, ◌==◌, ◌||◌, ◌<◌, ◌≤◌, ◌∙◌, ℕ, Bool, true, false, List, [], ◌∷◌, cond, refl, sym, ap, arith, codes}
use Rattle.std.proofs.lemmas.Bool.Decides.{Decides-eqb}
use Rattle.std.specs.Str.{bytes_eq}
use denote.Enum.Bare.{sameb, same_true, same_false}
use Rattle.slicc_ast.specs.contracts.tree.token.Sign as sign_type
use Rattle.slicc_ast.specs.contracts.tree.token.Word as word_type
use Rattle.slicc_ast.specs.declared.tree.token.TokenKind.{TokenKind}
use Rattle.slicc_ast.specs.declared.tree.token.TokenKind.TheVariants.{Name, Number, Quoted, Word as WordOf, Sign as SignOf, End}
use Rattle.slicc_ast.specs.declared.tree.token.Sign.{Sign}
use Rattle.slicc_ast.specs.declared.tree.token.Sign.TheVariants.{Or}
use Rattle.slicc_ast.specs.declared.tree.token.Word.{Word}
use Rattle.slicc_ast.specs.declared.tree.token.Word.TheVariants.{While}
use Rattle.slicc_ast.specs.Prelude.{has, functional_name, kind_of, machine_type, name_kind, other_name, sign_kind, word_kind}

same_word : (a b : Word) → word_kind a ≡ word_kind b → a ≡ b
same_word a b is = search rules

same_sign : (a b : Sign) → sign_kind a ≡ sign_kind b → a ≡ b
same_sign a b is = search rules

-- names are below the words, and the words below the signs
least : (b c : Bool) → cond b machine_type (cond c functional_name other_name) < 3
least true c = omega arith
least false true = omega arith
least false false = omega arith

name_below : (text : List ℕ) → name_kind text < 3
name_below text = least (bytes_eq text (codes "MachineType")) (bytes_eq text (codes "functionalRead") || bytes_eq text (codes "functionalWrite"))

word_above : (w : Word) → 10 ≤ word_kind w
word_above While = omega arith
word_above w = omega arith

word_below : (w : Word) → word_kind w < 50
word_below While = omega arith
word_below w = omega arith

sign_above : (s : Sign) → 50 ≤ sign_kind s
sign_above Or = omega arith
sign_above s = omega arith

-- the one kind of a set is another one
apart : (b : Bool) → (b ≡ true → ⊥) → false ≡ b || false
apart true other = absurd (other refl)
apart false other = refl

-- a test for one kind answers what a test for the variant of that kind answers
tested : {A : Type 0} (r : Bool) (m n : ℕ) (a b : A) → (r ≡ true → a ≡ b) → (r ≡ false → a ≡ b → ⊥) → (a ≡ b → m ≡ n) → (m ≡ n → a ≡ b) → r ≡ (m == n) || false
tested true m n a b same differ to back = sym (ap (λ t. t || false) ((Decides-eqb m n).1 (to (same refl))))
tested false m n a b same differ to back = apart (m == n) (λ e. differ refl (back ((Decides-eqb m n).0 e)))

pub word_same : (r : Bool) (found word : Word) → r ≡ sameb word_type.the_type found word → r ≡ true → found ≡ word
word_same r found word is so = same_true word_type.the_type tt found word (sym is ∙ so)

pub sign_same : (r : Bool) (found sign : Sign) → r ≡ sameb sign_type.the_type found sign → r ≡ true → found ≡ sign
sign_same r found sign is so = same_true sign_type.the_type tt found sign (sym is ∙ so)

pub word_tested : (r : Bool) (found word : Word) → r ≡ sameb word_type.the_type found word → r ≡ has (word_kind word ∷ []) (word_kind found)
word_tested r found word is =
    tested r (word_kind word) (word_kind found) found word
    (word_same r found word is) (λ e. same_false word_type.the_type found word (sym is ∙ e))
    (λ e. sym (ap word_kind e)) (λ e. sym (same_word word found e))

pub sign_tested : (r : Bool) (found sign : Sign) → r ≡ sameb sign_type.the_type found sign → r ≡ has (sign_kind sign ∷ []) (sign_kind found)
sign_tested r found sign is =
    tested r (sign_kind sign) (sign_kind found) found sign
    (sign_same r found sign is) (λ e. same_false sign_type.the_type found sign (sym is ∙ e))
    (λ e. sym (ap sign_kind e)) (λ e. sym (same_sign sign found e))

pub no_word : (kind : TokenKind) (word : Word) → ((w : Word) → kind ≡ WordOf w → ⊥) → false ≡ has (word_kind word ∷ []) (kind_of kind)
no_word (WordOf w) word not = absurd (not w refl)
no_word (SignOf s) word not = apart _ (λ e. absurd (omega (arith, (Decides-eqb _ _).0 e, word_below word, sign_above s)))
no_word (Name text) word not = apart _ (λ e. absurd (omega (arith, (Decides-eqb _ _).0 e, word_above word, name_below text)))
no_word (Number value) word not = apart _ (λ e. absurd (omega (arith, (Decides-eqb _ _).0 e, word_above word)))
no_word (Quoted text) word not = apart _ (λ e. absurd (omega (arith, (Decides-eqb _ _).0 e, word_above word)))
no_word End word not = apart _ (λ e. absurd (omega (arith, (Decides-eqb _ _).0 e, word_above word)))

pub no_sign : (kind : TokenKind) (sign : Sign) → ((s : Sign) → kind ≡ SignOf s → ⊥) → false ≡ has (sign_kind sign ∷ []) (kind_of kind)
no_sign (SignOf s) sign not = absurd (not s refl)
no_sign (WordOf w) sign not = apart _ (λ e. absurd (omega (arith, (Decides-eqb _ _).0 e, sign_above sign, word_below w)))
no_sign (Name text) sign not = apart _ (λ e. absurd (omega (arith, (Decides-eqb _ _).0 e, sign_above sign, name_below text)))
no_sign (Number value) sign not = apart _ (λ e. absurd (omega (arith, (Decides-eqb _ _).0 e, sign_above sign)))
no_sign (Quoted text) sign not = apart _ (λ e. absurd (omega (arith, (Decides-eqb _ _).0 e, sign_above sign)))
no_sign End sign not = apart _ (λ e. absurd (omega (arith, (Decides-eqb _ _).0 e, sign_above sign)))
