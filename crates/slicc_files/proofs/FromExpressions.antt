-- Expressions from their outlines. Of each node an expression is made, and a list of arguments and a suffix: the node
-- around it takes what it has at that place.
use Rattle.std.proofs.Common.{◌≡◌, ℕ, nat_lt, true, Option, Some, None, List, [], ◌∷◌, refl, ap, ◌∙◌}
use Rattle.std.proofs.Math.Path.{ap₂}
use Rattle.std.proofs.lemmas.Bool.{and_parts, false≢true}
use Rattle.slicc_ast.specs.declared.tree.span.Span.{Span}
use Rattle.slicc_ast.specs.declared.tree.token.TokenKind.{TokenKind}
use Rattle.slicc_ast.specs.declared.tree.token.TokenKind.TheVariants.{Name, Number as Numeral, Quoted, Word, Sign, End}
use Rattle.slicc_ast.specs.declared.tree.token.Word.{Word as Reserved}
use Rattle.slicc_ast.specs.declared.tree.token.Word.TheVariants.{True as TrueWord, False as FalseWord, New as NewWord, IsValid, IsInvalid, StaticCast}
use Rattle.slicc_ast.specs.declared.tree.token.Sign.{Sign as SignKind}
use Rattle.slicc_ast.specs.declared.tree.token.Sign.TheVariants.{OpenParenthesis, Colon, Equal as EqualSign, Unequal as UnequalSign, Less as LessSign, Greater as GreaterSign, LessOrEqual as LessOrEqualSign, GreaterOrEqual as GreaterOrEqualSign, Plus as PlusSign, Minus as MinusSign, Star, Not, And as AndSign}
use Rattle.slicc_ast.specs.declared.tree.expression.Operator.{Operator}
use Rattle.slicc_ast.specs.declared.tree.expression.Operator.TheVariants.{Or, And, Equal, Unequal, Less, Greater, LessOrEqual, GreaterOrEqual, Plus, Minus, Times}
use Rattle.slicc_ast.specs.declared.tree.expression.Suffix.{Suffix, Field, Method', Index}
use Rattle.slicc_ast.specs.declared.tree.expression.Expr.{Expr, Number, True, False, Nothing, Variable, Member, Call', New, Row_of-Expr, end_of-Expr, more_of-Expr, Row_of-Operand, end_of-Operand, more_of-Operand, Row_of-Suffix, end_of-Suffix, more_of-Suffix}
use Rattle.slicc_ast.specs.Prelude.{Operation', Not', Negate', Postfix', IsValid', IsInvalid', Cast', Group', Outline, node, Parts, none, part, provided, no_span, is_allowed, are_allowed, operator_sign, row_level, has_suffix, expr, operand_row, suffix_row, args_row, more_args_row}
use Rattle.slicc_ast.specs.Outline.{token}
use Rattle.slicc_ast.specs.Expressions.{suffix}
use Rattle.slicc_files.proofs.Bare.{bare, bare_in}
use Rattle.slicc_files.proofs.Rows.{ExprRow, listed_exprs, expr_row, expr_row_again, OperandRow, listed_operands, operands_row, operands_row_again, SuffixRow, listed_suffixes, suffixes_row, suffixes_row_again}
use Rattle.slicc_files.proofs.Places.{span_of, text_of}
use Rattle.slicc_files.proofs.FromNames.{name_from, type_from}

-- what is made of a node
pub record Made : Type 0 where
  pub expression : Expr
  pub arguments : List Expr
  pub suffix : Suffix

-- parts, each node with what was made of it
pub data Pieces : Type 0 where
  ended : Pieces
  with_token : TokenKind → Pieces → Pieces
  with_node : Outline → Made → Pieces → Pieces

-- the first node, its expression and its arguments, and what is behind it
abbrev node_in : Pieces → Outline
node_in ended = node no_span none
node_in (with_token kind left) = node_in left
node_in (with_node o made left) = o

abbrev expression_in : Pieces → Expr
expression_in ended = Nothing no_span
expression_in (with_token kind left) = expression_in left
expression_in (with_node o made left) = made.expression

abbrev arguments_in : Pieces → List Expr
arguments_in ended = []
arguments_in (with_token kind left) = arguments_in left
arguments_in (with_node o made left) = made.arguments

abbrev behind_node : Pieces → Pieces
behind_node ended = ended
behind_node (with_token kind left) = behind_node left
behind_node (with_node o made left) = left

-- arguments
abbrev arguments_made : Pieces → List Expr
arguments_made ended = []
arguments_made (with_token kind left) = arguments_made left
arguments_made (with_node o made left) = made.expression ∷ arguments_made left

-- a name alone, a key in brackets, or a name with arguments
abbrev suffix_by : Span → Pieces → Pieces → Suffix
suffix_by span all ended = Field (name_from (node_in all)) span
suffix_by span all (with_token kind ended) = Index (expression_in all) span
suffix_by span all (with_token kind (with_token next left)) = Index (expression_in all) span
suffix_by span all (with_token kind (with_node o made left)) =
    let row = expr_row made.arguments in
    Method' (name_from (node_in all)) row.0 row.1 (span_of o) span
suffix_by span all (with_node o made left) = Index (expression_in all) span

abbrev suffix_made : Span → Pieces → Suffix
suffix_made span all = suffix_by span all (behind_node all)

abbrev suffixes_in : Pieces → List Suffix
suffixes_in ended = []
suffixes_in (with_token kind left) = suffixes_in left
suffixes_in (with_node o made left) = made.suffix ∷ suffixes_in left

abbrev postfix_made : Span → Made → Pieces → Expr
postfix_made span value left =
    let row = suffixes_row (suffixes_in left) in
    Postfix' value.expression row.0 row.1 span

-- operators and operands
abbrev operator_by : SignKind → Operator
operator_by AndSign = And
operator_by EqualSign = Equal
operator_by UnequalSign = Unequal
operator_by LessSign = Less
operator_by GreaterSign = Greater
operator_by LessOrEqualSign = LessOrEqual
operator_by GreaterOrEqualSign = GreaterOrEqual
operator_by PlusSign = Plus
operator_by MinusSign = Minus
operator_by Star = Times
operator_by _ = Or

abbrev operator_of : TokenKind → Operator
operator_of (Name text) = Or
operator_of (Numeral n) = Or
operator_of (Quoted text) = Or
operator_of (Word reserved) = Or
operator_of (Sign which) = operator_by which
operator_of End = Or

abbrev operands_in : Pieces → List (Operator × Expr)
operands_in ended = []
operands_in (with_token kind ended) = []
operands_in (with_token kind (with_token next left)) = []
operands_in (with_token kind (with_node o made left)) = (operator_of kind, made.expression) ∷ operands_in left
operands_in (with_node o made left) = []

abbrev operation_made : Span → Made → Pieces → Expr
operation_made span value left =
    let row = operands_row (operands_in left) in
    Operation' value.expression row.0 row.1 span

-- what begins with a node, by the sign behind it
abbrev joined_by : Span → Outline → Made → Pieces → SignKind → Expr
joined_by span o made left Colon = Member (name_from o) (name_from (node_in left)) span
joined_by span o made left OpenParenthesis =
    let row = expr_row (arguments_in left) in
    Call' (name_from o) row.0 row.1 (span_of (node_in left)) span
joined_by span o made left which = operation_made span made (with_token (Sign which) left)

abbrev joined : Span → Outline → Made → Pieces → TokenKind → Expr
joined span o made left (Name text) = Nothing span
joined span o made left (Numeral n) = Nothing span
joined span o made left (Quoted text) = Nothing span
joined span o made left (Word reserved) = Nothing span
joined span o made left (Sign which) = joined_by span o made left which
joined span o made left End = Nothing span

abbrev node_begun : Span → Outline → Made → Pieces → Expr
node_begun span o made ended = Nothing span
node_begun span o made (with_token kind left) = joined span o made left kind
node_begun span o made (with_node next inner left) = postfix_made span made (with_node next inner left)

-- what begins with a token
abbrev mode_in : Pieces → Option (List ℕ)
mode_in ended = None
mode_in (with_token kind ended) = None
mode_in (with_token kind (with_token next left)) = Some (text_of next)
mode_in (with_token kind (with_node o made left)) = None
mode_in (with_node o made left) = None

abbrev word_begun : Span → Pieces → Reserved → Expr
word_begun span left TrueWord = True span
word_begun span left FalseWord = False span
word_begun span left NewWord = New (name_from (node_in left)) span
word_begun span left IsValid = IsValid' (expression_in left) span
word_begun span left IsInvalid = IsInvalid' (expression_in left) span
word_begun span left StaticCast = Cast' (type_from (node_in left)) (mode_in (behind_node left)) (expression_in (behind_node left)) span
word_begun span left _ = Nothing span

abbrev sign_begun : Span → Pieces → SignKind → Expr
sign_begun span left Not = Not' (expression_in left) span
sign_begun span left MinusSign = Negate' (expression_in left) span
sign_begun span left _ = Group' (expression_in left) span

abbrev token_begun : Span → Pieces → TokenKind → Expr
token_begun span left (Name text) = Variable (record { text = text; span = span })
token_begun span left (Numeral n) = Number n span
token_begun span left (Quoted text) = Nothing span
token_begun span left (Word reserved) = word_begun span left reserved
token_begun span left (Sign which) = sign_begun span left which
token_begun span left End = Nothing span

abbrev expression_made : Span → Pieces → Expr
expression_made span ended = Nothing span
expression_made span (with_token kind left) = token_begun span left kind
expression_made span (with_node o made left) = node_begun span o made left

abbrev all_made : Span → Pieces → Made
all_made span pieces =
    record {
      expression = expression_made span pieces;
      arguments = arguments_made pieces;
      suffix = suffix_made span pieces;
    }

abbrev mutual
  made_of : Outline → Made
  made_of (node span parts) = all_made span (pieces_in parts)

  pieces_in : Parts → Pieces
  pieces_in none = ended
  pieces_in (token kind parts) = with_token kind (pieces_in parts)
  pieces_in (part outline parts) = with_node outline (made_of outline) (pieces_in parts)
  pieces_in (provided condition parts) = pieces_in parts

abbrev pub expr_from : Outline → Expr
expr_from o = (made_of o).expression

-- an operator's sign is that of no other form
operator_again : (operator : Operator) → operator_by (operator_sign operator) ≡ operator
operator_again Or = refl
operator_again And = refl
operator_again Equal = refl
operator_again Unequal = refl
operator_again Less = refl
operator_again Greater = refl
operator_again LessOrEqual = refl
operator_again GreaterOrEqual = refl
operator_again Plus = refl
operator_again Minus = refl
operator_again Times = refl

operator_joins : (span : Span) (o : Outline) (made : Made) (left : Pieces) (operator : Operator) → joined_by span o made left (operator_sign operator) ≡ operation_made span made (with_token (Sign (operator_sign operator)) left)
operator_joins span o made left Or = refl
operator_joins span o made left And = refl
operator_joins span o made left Equal = refl
operator_joins span o made left Unequal = refl
operator_joins span o made left Less = refl
operator_joins span o made left Greater = refl
operator_joins span o made left LessOrEqual = refl
operator_joins span o made left GreaterOrEqual = refl
operator_joins span o made left Plus = refl
operator_joins span o made left Minus = refl
operator_joins span o made left Times = refl

operation_begins : {m : _} (span : Span) (o : Outline) (made : Made) (level : ℕ) (row : Row_of-Operand m) → nat_lt 0 (row_level row) ≡ true → node_begun span o made (pieces_in (bare_in (operand_row level row))) ≡ operation_made span made (pieces_in (bare_in (operand_row level row)))
operation_begins span o made level end_of-Operand some = absurd (false≢true some)
operation_begins span o made level (more_of-Operand operator value row) some =
    operator_joins span o made (with_node (bare (expr value)) (made_of (bare (expr value))) (pieces_in (bare_in (operand_row level row)))) operator

postfix_begins : {m : _} (span : Span) (o : Outline) (made : Made) (row : Row_of-Suffix m) → has_suffix row ≡ true → node_begun span o made (pieces_in (bare_in (suffix_row row))) ≡ postfix_made span made (pieces_in (bare_in (suffix_row row)))
postfix_begins span o made end_of-Suffix some = absurd (false≢true some)
postfix_begins span o made (more_of-Suffix first row) some = refl

mutual
  pub expr_again : (e : Expr) → is_allowed (expr e) ≡ true → expr_from (bare (expr e)) ≡ e
  expr_again (Operation' head n others span) allowed =
      let some = and_parts _ _ allowed in
      let inner = and_parts _ _ (and_parts _ _ some.1).1 in
      operation_begins span (bare (expr head)) (made_of (bare (expr head))) (row_level others) others some.0
      ∙ ap (λ (xs : List (Operator × Expr)). Operation' (expr_from (bare (expr head))) (operands_row xs).0 (operands_row xs).1 span) (operands_again (row_level others) others inner.1)
      ∙ ap (λ (r : OperandRow). Operation' (expr_from (bare (expr head))) r.0 r.1 span) (operands_row_again n others)
      ∙ ap (λ (e : Expr). Operation' e n others span) (expr_again head inner.0)
  expr_again (Not' operand span) allowed =
      ap (λ (e : Expr). Not' e span) (expr_again operand (and_parts _ true (and_parts _ _ allowed).1).0)
  expr_again (Negate' operand span) allowed =
      ap (λ (e : Expr). Negate' e span) (expr_again operand (and_parts _ true (and_parts _ _ allowed).1).0)
  expr_again (Postfix' value n suffixes span) allowed =
      let some = and_parts _ _ allowed in
      let inner = and_parts _ _ (and_parts _ _ some.1).1 in
      postfix_begins span (bare (expr value)) (made_of (bare (expr value))) suffixes some.0
      ∙ ap (λ (xs : List Suffix). Postfix' (expr_from (bare (expr value))) (suffixes_row xs).0 (suffixes_row xs).1 span) (suffixes_again suffixes inner.1)
      ∙ ap (λ (r : SuffixRow). Postfix' (expr_from (bare (expr value))) r.0 r.1 span) (suffixes_row_again n suffixes)
      ∙ ap (λ (e : Expr). Postfix' e n suffixes span) (expr_again value inner.0)
  expr_again (Number n span) allowed = refl
  expr_again (True span) allowed = refl
  expr_again (False span) allowed = refl
  expr_again (Nothing span) allowed = refl
  expr_again (Variable variable) allowed = refl
  expr_again (Member owner member span) allowed = refl
  expr_again (Call' function shape row arguments span) allowed =
      ap (λ (xs : List Expr). Call' function (expr_row xs).0 (expr_row xs).1 arguments span) (args_again row (and_parts _ true allowed).0)
      ∙ ap (λ (r : ExprRow). Call' function r.0 r.1 arguments span) (expr_row_again shape row)
  expr_again (New made span) allowed = refl
  expr_again (IsValid' value span) allowed = ap (λ (e : Expr). IsValid' e span) (expr_again value (and_parts _ true allowed).0)
  expr_again (IsInvalid' value span) allowed = ap (λ (e : Expr). IsInvalid' e span) (expr_again value (and_parts _ true allowed).0)
  expr_again (Cast' target None value span) allowed = ap (λ (e : Expr). Cast' target None e span) (expr_again value (and_parts _ true allowed).0)
  expr_again (Cast' target (Some text) value span) allowed = ap (λ (e : Expr). Cast' target (Some text) e span) (expr_again value (and_parts _ true allowed).0)
  expr_again (Group' inner span) allowed = ap (λ (e : Expr). Group' e span) (expr_again inner (and_parts _ true allowed).0)

  operands_again : {m : _} (level : ℕ) (row : Row_of-Operand m) → are_allowed (operand_row level row) ≡ true → operands_in (pieces_in (bare_in (operand_row level row))) ≡ listed_operands row
  operands_again level end_of-Operand allowed = refl
  operands_again level (more_of-Operand operator value row) allowed =
      let inner = and_parts _ _ (and_parts _ _ (and_parts _ _ allowed).1).1 in
      ap₂ (λ (x : Operator × Expr) (xs : List (Operator × Expr)). x ∷ xs)
      (ap₂ (λ (o : Operator) (e : Expr). (o, e)) (operator_again operator) (expr_again value inner.0)) (operands_again level row inner.1)

  suffix_again : (s : Suffix) → is_allowed (suffix s) ≡ true → (made_of (bare (suffix s))).suffix ≡ s
  suffix_again (Field field span) allowed = refl
  suffix_again (Method' method shape row arguments span) allowed =
      ap (λ (xs : List Expr). Method' method (expr_row xs).0 (expr_row xs).1 arguments span) (args_again row (and_parts _ true allowed).0)
      ∙ ap (λ (r : ExprRow). Method' method r.0 r.1 arguments span) (expr_row_again shape row)
  suffix_again (Index key span) allowed = ap (λ (e : Expr). Index e span) (expr_again key (and_parts _ true allowed).0)

  suffixes_again : {m : _} (row : Row_of-Suffix m) → are_allowed (suffix_row row) ≡ true → suffixes_in (pieces_in (bare_in (suffix_row row))) ≡ listed_suffixes row
  suffixes_again end_of-Suffix allowed = refl
  suffixes_again (more_of-Suffix first row) allowed =
      let inner = and_parts _ _ allowed in
      ap₂ (λ (x : Suffix) (xs : List Suffix). x ∷ xs) (suffix_again first inner.0) (suffixes_again row inner.1)

  args_again : {m : _} (row : Row_of-Expr m) → are_allowed (args_row row) ≡ true → arguments_made (pieces_in (bare_in (args_row row))) ≡ listed_exprs row
  args_again end_of-Expr allowed = refl
  args_again (more_of-Expr first row) allowed =
      let inner = and_parts _ _ allowed in
      ap₂ (λ (x : Expr) (xs : List Expr). x ∷ xs) (expr_again first inner.0) (more_args_again row inner.1)

  more_args_again : {m : _} (row : Row_of-Expr m) → are_allowed (more_args_row row) ≡ true → arguments_made (pieces_in (bare_in (more_args_row row))) ≡ listed_exprs row
  more_args_again end_of-Expr allowed = refl
  more_args_again (more_of-Expr first row) allowed =
      let inner = and_parts _ _ allowed in
      ap₂ (λ (x : Expr) (xs : List Expr). x ∷ xs) (expr_again first inner.0) (more_args_again row inner.1)
