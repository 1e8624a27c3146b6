-- How statements are read by their words.
use Rattle.std.proofs.Common.{◌≡◌, ℕ, true, false, List, [], ◌∷◌, refl, sym, subst}
use Rattle.slicc_ast.specs.declared.tree.statement.PrintWord.{PrintWord}
use Rattle.slicc_ast.specs.declared.tree.statement.PrintWord.TheVariants.{Dprintf, AppendTransitionComment}
use Rattle.slicc_ast.specs.declared.tree.token.TokenKind.TheVariants.{Quoted, Word}
use Rattle.slicc_ast.specs.Names.{word}
use Rattle.slicc_ast.specs.Outline.{token}
use Rattle.slicc_ast.specs.Prelude.{Parts, print_word as print_word_of, has, is_ahead, kind_of, word_kind}
use Rattle.slicc_ast.specs.declared.tree.token.Word.TheVariants.{StallAndWait, CheckAllocate, Error, Assert}
use Rattle.slicc_lex.specs.declared.token.Token.{Token}
use Rattle.slicc_lex.specs.Prelude.{symbols}
use Rattle.slicc_reading.specs.Prelude.{AreRead}
use Rattle.slicc_reading.proofs.FirstTokens.{later_kind}
use Rattle.slicc_reading.proofs.Parts.{token_read}
use Rattle.slicc_expr.specs.Prelude.{IsPrintWord, calling_words, print_kinds, print_word}

-- a string
abbrev pub text_parts : List ℕ → Parts → Parts
text_parts text others = token (Quoted text) others

is_print_kind : (which : PrintWord) → has print_kinds (word_kind (print_word_of which)) ≡ true
is_print_kind Dprintf = refl
is_print_kind AppendTransitionComment = refl

pub print_word_read : (room : ℕ) (which : PrintWord) (t : Token) (tokens left : List Token)
    → tokens ≡ t ∷ left → IsPrintWord t.kind which → AreRead room print_word (word (print_word_of which)) tokens left
print_word_read room which t tokens left is same =
    token_read room print_kinds (Word (print_word_of which)) t tokens left is
    (subst (λ k. has print_kinds (kind_of k) ≡ true) (sym same) (is_print_kind which)) same

pub print_ahead : (tokens : List Token) → is_ahead calling_words (symbols tokens) ≡ true
    → is_ahead (word_kind StallAndWait ∷ []) (symbols tokens) ≡ false → is_ahead (word_kind CheckAllocate ∷ []) (symbols tokens) ≡ false
    → is_ahead (word_kind Error ∷ []) (symbols tokens) ≡ false → is_ahead (word_kind Assert ∷ []) (symbols tokens) ≡ false
    → is_ahead print_kinds (symbols tokens) ≡ true
print_ahead tokens some stall check error assert =
    later_kind (word_kind Assert ∷ []) print_kinds (symbols tokens)
    (later_kind (word_kind Error ∷ []) (word_kind Assert ∷ print_kinds) (symbols tokens)
    (later_kind (word_kind CheckAllocate ∷ []) (word_kind Error ∷ word_kind Assert ∷ print_kinds) (symbols tokens)
    (later_kind (word_kind StallAndWait ∷ []) (word_kind CheckAllocate ∷ word_kind Error ∷ word_kind Assert ∷ print_kinds) (symbols tokens) some stall)
    check) error) assert
