-- How balanced parts are read.
use Rattle.std.proofs.Common.{rules, ◌≡◌, ℕ, true, false, List, [], ◌∷◌, refl, sym, subst, ap}
use Rattle.std.proofs.lemmas.Bool.{false≢true}
use Rattle.slicc_ast.specs.declared.tree.balanced.Balanced.{Balanced}
use Rattle.slicc_ast.specs.declared.tree.balanced.Part.TheViews.{the_lemmas}
use Rattle.slicc_ast.specs.declared.tree.balanced.Part.{Part, Token, Parentheses, Brackets, Braces, Row_of-Part, end_of-Part, more_of-Part, items-the_row-Part}
use Rattle.slicc_ast.specs.declared.tree.token.TokenKind.{TokenKind}
use Rattle.slicc_ast.specs.declared.tree.token.TokenKind.TheVariants.{Name, Number, Quoted, Word, Sign, End}
use Rattle.slicc_ast.specs.declared.tree.token.Sign.{Sign as SignKind}
use Rattle.slicc_ast.specs.declared.tree.token.Sign.TheVariants.{OpenBrace, CloseBrace, OpenParenthesis, CloseParenthesis, OpenBracket, CloseBracket, Semicolon, Colon, Comma, Dot, Equals, Assign, Equal, Unequal, Less, Greater, LessOrEqual, GreaterOrEqual, Plus, Minus, Star, Not, And, Or}
use Rattle.slicc_ast.specs.Names.{sign, balanced, balanced_part}
use Rattle.slicc_ast.specs.Prelude.{balanced_list, balanced_row, is_loose, none, Parts, has, is_ahead, first_of_form, Form, of, unbracketed, kind_of, sign_kind}
use Rattle.slicc_ast.specs.Parts.{Part as GrammarPart}
use Rattle.slicc_lex.specs.declared.token.Token.{Token as TokenOf}
use Rattle.slicc_lex.specs.Prelude.{symbols}
use Rattle.slicc_reading.specs.Prelude.{AreRead}
use Rattle.slicc_reading.proofs.FirstTokens.{later_kind}
use Rattle.slicc_reading.proofs.Parts.{allow, as_parts, by_alternative, token_read}
use Rattle.slicc_reading.proofs.Repeats.{each}

-- what the parts are spelled by, part by part, and from the list of them
pub each_part : (parts : List Part) → balanced_list parts ≡ each balanced_part parts none
each_part [] = refl
each_part (first ∷ others) = ap (λ p. balanced_part first p) (each_part others)

pub list_of_row : (n : _) (row : Row_of-Part n) → balanced_row row ≡ balanced_list (items-the_row-Part n row)
list_of_row n end_of-Part = refl
list_of_row n (more_of-Part first row) = ap (λ p. balanced_part first p) (list_of_row _ row)

parentheses_parts : (b : Balanced) (others : Parts) → sign OpenParenthesis (balanced b (sign CloseParenthesis others)) ≡ balanced_part (Parentheses b) others
parentheses_parts b others = search (rules, the_lemmas, list_of_row)

brackets_parts : (b : Balanced) (others : Parts) → sign OpenBracket (balanced b (sign CloseBracket others)) ≡ balanced_part (Brackets b) others
brackets_parts b others = search (rules, the_lemmas, list_of_row)

braces_parts : (b : Balanced) (others : Parts) → sign OpenBrace (balanced b (sign CloseBrace others)) ≡ balanced_part (Braces b) others
braces_parts b others = search (rules, the_lemmas, list_of_row)

-- a pair of brackets, as a part
pub parentheses_read : {room : ℕ} {g : GrammarPart} {tokens left : List TokenOf} (b : Balanced)
    → AreRead room g (λ others. sign OpenParenthesis (balanced b (sign CloseParenthesis others))) tokens left
    → AreRead room g (balanced_part (Parentheses b)) tokens left
parentheses_read b r = as_parts (balanced_part (Parentheses b)) (parentheses_parts b) r

pub brackets_read : {room : ℕ} {g : GrammarPart} {tokens left : List TokenOf} (b : Balanced)
    → AreRead room g (λ others. sign OpenBracket (balanced b (sign CloseBracket others))) tokens left
    → AreRead room g (balanced_part (Brackets b)) tokens left
brackets_read b r = as_parts (balanced_part (Brackets b)) (brackets_parts b) r

pub braces_read : {room : ℕ} {g : GrammarPart} {tokens left : List TokenOf} (b : Balanced)
    → AreRead room g (λ others. sign OpenBrace (balanced b (sign CloseBrace others))) tokens left
    → AreRead room g (balanced_part (Braces b)) tokens left
braces_read b r = as_parts (balanced_part (Braces b)) (braces_parts b) r

-- a token that is no bracket
sign_is_loose : (s : SignKind) → has unbracketed (sign_kind s) ≡ true → is_loose (Sign s) ≡ true
sign_is_loose OpenBrace is = absurd (false≢true is)
sign_is_loose CloseBrace is = absurd (false≢true is)
sign_is_loose OpenParenthesis is = absurd (false≢true is)
sign_is_loose CloseParenthesis is = absurd (false≢true is)
sign_is_loose OpenBracket is = absurd (false≢true is)
sign_is_loose CloseBracket is = absurd (false≢true is)
sign_is_loose Semicolon is = refl
sign_is_loose Colon is = refl
sign_is_loose Comma is = refl
sign_is_loose Dot is = refl
sign_is_loose Equals is = refl
sign_is_loose Assign is = refl
sign_is_loose Equal is = refl
sign_is_loose Unequal is = refl
sign_is_loose Less is = refl
sign_is_loose Greater is = refl
sign_is_loose LessOrEqual is = refl
sign_is_loose GreaterOrEqual is = refl
sign_is_loose Plus is = refl
sign_is_loose Minus is = refl
sign_is_loose Star is = refl
sign_is_loose Not is = refl
sign_is_loose And is = refl
sign_is_loose Or is = refl

kind_is_loose : (kind : TokenKind) → has unbracketed (kind_of kind) ≡ true → is_loose kind ≡ true
kind_is_loose (Name text) is = refl
kind_is_loose (Number n) is = refl
kind_is_loose (Quoted text) is = refl
kind_is_loose (Word w) is = refl
kind_is_loose (Sign s) is = sign_is_loose s is
kind_is_loose End is = absurd (false≢true is)

first_has : (kinds : List ℕ) (t : TokenOf) (tokens left : List TokenOf) → tokens ≡ t ∷ left → is_ahead kinds (symbols tokens) ≡ true → has kinds (kind_of t.kind) ≡ true
first_has kinds t tokens left is ahead = subst (λ ts. is_ahead kinds (symbols ts) ≡ true) is ahead

pub loose_read : (room : ℕ) (kind : TokenKind) (t : TokenOf) (tokens left : List TokenOf)
    → tokens ≡ t ∷ left → kind ≡ t.kind → is_ahead unbracketed (symbols tokens) ≡ true
    → AreRead room (of Form.balanced_part) (balanced_part (Token kind)) tokens left
loose_read room kind t tokens left is copy ahead =
    let is_kind : has unbracketed (kind_of t.kind) ≡ true = first_has unbracketed t tokens left is ahead in
    let loose : is_loose kind ≡ true = kind_is_loose kind (subst (λ k. has unbracketed (kind_of k) ≡ true) (sym copy) is_kind) in
    by_alternative Form.balanced_part 0 refl ahead (allow loose (token_read room unbracketed kind t tokens left is is_kind (sym copy)))

-- one of the opening brackets
pub bracket_ahead : (tokens : List TokenOf) → is_ahead (first_of_form Form.balanced_part) (symbols tokens) ≡ true
    → is_ahead unbracketed (symbols tokens) ≡ false → is_ahead (sign_kind OpenParenthesis ∷ []) (symbols tokens) ≡ false
    → is_ahead (sign_kind OpenBracket ∷ []) (symbols tokens) ≡ false → is_ahead (sign_kind OpenBrace ∷ []) (symbols tokens) ≡ true
bracket_ahead tokens some no_loose no_parenthesis no_bracket =
    later_kind (sign_kind OpenBracket ∷ []) (sign_kind OpenBrace ∷ []) (symbols tokens)
    (later_kind (sign_kind OpenParenthesis ∷ []) (sign_kind OpenBracket ∷ sign_kind OpenBrace ∷ []) (symbols tokens)
    (later_kind unbracketed (sign_kind OpenParenthesis ∷ sign_kind OpenBracket ∷ sign_kind OpenBrace ∷ []) (symbols tokens) some no_loose) no_parenthesis) no_bracket
