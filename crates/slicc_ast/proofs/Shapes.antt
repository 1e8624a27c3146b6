-- How a reader with one token ahead makes a tree's outline, spans aside. What it has read is a list of tokens and of nodes
-- that are ended, with a mark where a node begins that isn't. The table below is that of the reader, with marks among its
-- parts that end a node, or begin one at what has been read last, as an operator does with the operand on its left. It has
-- every tree's list of tokens, and may have others, so it says nothing of the language.
use Rattle.std.specs.Prelude.{ℕ, zero, suc, Bool, true, false, List, [], ◌∷◌}
use Rattle.slicc_ast.specs.declared.tree.token.TokenKind.{TokenKind}
use Rattle.slicc_ast.specs.declared.tree.token.Word.{Word}
use Rattle.slicc_ast.specs.declared.tree.token.Sign.{Sign}
use Rattle.slicc_ast.specs.declared.tree.token.Word.TheVariants.{Protocol, Include, Machine, Enumeration, StateDeclaration, Structure, InPort, OutPort, Action, Transition, Peek, Enqueue, StallAndWait, CheckAllocate, If, Else, Return, True, False, Ood, New, IsValid, IsInvalid, StaticCast, Error, Assert, Dprintf, AppendTransitionComment}
use Rattle.slicc_ast.specs.declared.tree.token.Sign.TheVariants.{OpenBrace, CloseBrace, OpenParenthesis, CloseParenthesis, OpenBracket, CloseBracket, Comma, Colon, Semicolon, Assign, Dot, Equals, Minus, Not, Star, Plus, Less, Greater, LessOrEqual, GreaterOrEqual, Equal, Unequal, And, Or}
use Rattle.slicc_ast.specs.Outline.{token}
use Rattle.slicc_ast.specs.Prelude.{Outline, node, Parts, none, part, no_span, Row, Rows, Grammar, followed_by, Form, file, member_end, functional_end, machine_name, declaration, declaration_end, named_end, body, transition_end, statement, statement_end, conditional, otherwise, expression, conjunction, equality, order, sum, product, unary, postfix, primary, constant, opening, name_end, arguments, other_name, machine_type, functional_name, number, quoted, end_of_text, kind_of, sign_kind, word_kind, names_of, unbracketed, first_of_form, further_of_form}
use Rattle.slicc_ast.proofs.Building.{Builder, Builds}
use Rattle.slicc_ast.specs.Form.Form.{item, enumeration, states, structure, member, pair, machine, parameter, literal, out_port, in_port, action, transition, names, formals, formal, block, suffix, balanced_part}

-- what has been read, the last first
pub data Made : Type 0 where
  start : Made
  opened : Made → Made
  with_token : TokenKind → Made → Made
  with_part : Outline → Made → Made

pub data Mark : Type 0 where
  -- a node begins
  begin : Mark
  -- the innermost node that has begun ends
  close : Mark
  -- the last token is a node
  named : Mark
  -- the last node is the first part of one that begins
  wrap : Mark
  -- the last node is a token of its own
  bare : Mark
  -- the node that began before the last token and node begins behind them
  later : Mark
  -- it began there after all, and the last token and node are the first parts of it and of one in it
  sooner : Mark

-- the node that ends, with these as its last parts
abbrev pub ended_node : Made → Parts → Made
ended_node start parts = start
ended_node (opened made) parts = with_part (node no_span parts) made
ended_node (with_token kind made) parts = ended_node made (token kind parts)
ended_node (with_part outline made) parts = ended_node made (part outline parts)

abbrev pub made_named : Made → Made
made_named (with_token kind made) = with_part (node no_span (token kind none)) made
made_named made = made

abbrev pub made_wrapped : Made → Made
made_wrapped (with_part outline made) = with_part outline (opened made)
made_wrapped made = made

abbrev pub made_bare : Made → Made
made_bare (with_part (node span (token kind none)) made) = with_token kind made
made_bare made = made

abbrev pub made_later : Made → Made
made_later (with_part outline (with_token kind (opened made))) = opened (with_part outline (with_token kind made))
made_later made = made

abbrev pub made_sooner : Made → Made
made_sooner (opened (with_part outline (with_token kind made))) = with_part outline (opened (with_token kind (opened made)))
made_sooner made = made

abbrev pub marked_by : Mark → Made → Made
marked_by begin made = opened made
marked_by close made = ended_node made none
marked_by named made = made_named made
marked_by wrap made = made_wrapped made
marked_by bare made = made_bare made
marked_by later made = made_later made
marked_by sooner made = made_sooner made

-- the forms of this table: those of the grammar, the value of an attribute, and the marks
pub data Step : Type 0 where
  plain : Form → Step
  value : Step
  mark : Mark → Step

abbrev pub made_by : Step → Made → Made
made_by (plain n) made = made
made_by value made = made
made_by (mark m) made = marked_by m made

abbrev Part : Type 0
Part = Row Step → Row Step

infixr 70 ◌▸◌
abbrev pub ◌▸◌ : Part → Part → Part
◌▸◌ = followed_by

abbrev pub of : Form → Part
of n = Row.form (plain n)

abbrev pub at : Mark → Part
at m = Row.form (mark m)

abbrev pub optional : Part → Part
optional inner = Row.maybe (inner Row.done)

abbrev pub repeated : Part → Part
repeated inner = Row.many (inner Row.done)

abbrev pub word : Word → Part
word w = Row.token (word_kind w ∷ [])

abbrev pub sign : Sign → Part
sign s = Row.token (sign_kind s ∷ [])

-- a name of these kinds, which is a node
abbrev pub name_of : List ℕ → Part
name_of kinds = Row.token kinds ▸ at named

abbrev pub name : Part
name = name_of names_of

abbrev pub string : Part
string = Row.token (quoted ∷ [])

abbrev pub comma : Part
comma = sign Comma

abbrev pub colon : Part
colon = sign Colon

abbrev pub semicolon : Part
semicolon = sign Semicolon

abbrev pub assign : Part
assign = sign Assign

abbrev pub parentheses : Part → Part
parentheses inner = sign OpenParenthesis ▸ inner ▸ sign CloseParenthesis

abbrev pub braces : Part → Part
braces inner = sign OpenBrace ▸ inner ▸ sign CloseBrace

-- these parts are a node
abbrev pub whole : Part → Part
whole inner = at begin ▸ inner ▸ at close

abbrev pub more_pairs : Part
more_pairs = repeated (comma ▸ of pair)

abbrev pub pairs : Part
pairs = whole more_pairs

abbrev pub formals_part : Part
formals_part = parentheses (whole (optional (of formals)))

abbrev pub arguments_part : Part
arguments_part = parentheses (whole (optional (of arguments)))

abbrev pub balanced : Part
balanced = whole (repeated (of balanced_part))

-- how far a form of expressions is above unary ones, and the operators between two operands of one form
abbrev pub form_at : ℕ → Form
form_at zero = unary
form_at (suc zero) = product
form_at (suc (suc zero)) = sum
form_at (suc (suc (suc zero))) = order
form_at (suc (suc (suc (suc zero)))) = equality
form_at (suc (suc (suc (suc (suc zero))))) = conjunction
form_at (suc (suc (suc (suc (suc (suc d)))))) = expression

abbrev pub kinds_at : ℕ → List ℕ
kinds_at zero = sign_kind Star ∷ []
kinds_at (suc zero) = sign_kind Plus ∷ sign_kind Minus ∷ []
kinds_at (suc (suc zero)) = sign_kind Less ∷ sign_kind Greater ∷ sign_kind LessOrEqual ∷ sign_kind GreaterOrEqual ∷ []
kinds_at (suc (suc (suc zero))) = sign_kind Equal ∷ sign_kind Unequal ∷ []
kinds_at (suc (suc (suc (suc zero)))) = sign_kind And ∷ []
kinds_at (suc (suc (suc (suc (suc d))))) = sign_kind Or ∷ []

-- an operator of a level with its operand, and all operands of the level behind the first one, with which they are a node
abbrev pub operand_at : ℕ → Row Step
operand_at d = (Row.token (kinds_at d) ▸ of (form_at d)) Row.done

abbrev pub operation_at : ℕ → Row Step
operation_at d = (at wrap ▸ Row.token (kinds_at d) ▸ of (form_at d) ▸ Row.many (operand_at d) ▸ at close) Row.done

-- the operators of so many levels, the tightest first, and then the row
abbrev pub operators_to : ℕ → Part
operators_to zero row = row
operators_to (suc d) row = operators_to d (Row.maybe (operation_at d) row)

-- suffixes, which are a node with what they are behind
abbrev pub suffixes : Part
suffixes = optional (at wrap ▸ of suffix ▸ repeated (of suffix) ▸ at close)

-- what is behind a name that an expression begins with
abbrev pub name_ends : Part
name_ends = optional (of name_end) ▸ suffixes

-- the start of an expression, which is a name or isn't
abbrev pub front : Bool → Part
front true = name ▸ name_ends
front false = of opening

abbrev pub expression_rows : ℕ → List (Row Step)
expression_rows d = front false (operators_to d Row.done) ∷ front true (operators_to d Row.done) ∷ []

abbrev pub end_of_statement : Part
end_of_statement = optional (assign ▸ of expression) ▸ semicolon

abbrev pub port_head : Part
port_head = parentheses (name ▸ comma ▸ name ▸ comma ▸ name ▸ pairs)

abbrev pub shape_rows : Form → List (Row Step)
shape_rows file =
    (whole (optional (word Protocol ▸ string ▸ semicolon) ▸ of item ▸ repeated (of item)) ▸ Row.token (end_of_text ∷ [])) Row.done
    ∷ []
shape_rows item =
    whole (word Include ▸ string ▸ semicolon) Row.done
    ∷ of enumeration Row.done
    ∷ of structure Row.done
    ∷ of machine Row.done
    ∷ []
shape_rows enumeration =
    whole (word Enumeration ▸ parentheses (name ▸ pairs) ▸ braces (repeated (name ▸ pairs ▸ semicolon))) Row.done ∷ []
shape_rows states =
    whole (word StateDeclaration ▸ parentheses (name ▸ pairs) ▸ braces (repeated (name ▸ comma ▸ name ▸ colon ▸ name ▸ pairs ▸ semicolon))) Row.done
    ∷ []
shape_rows structure =
    whole (word Structure ▸ parentheses (name ▸ pairs) ▸ braces (repeated (of member))) Row.done ∷ []
shape_rows member = whole (name ▸ of member_end) Row.done ∷ []
shape_rows member_end =
    (name_of (other_name ∷ machine_type ∷ []) ▸ optional formals_part ▸ pairs ▸ semicolon) Row.done
    ∷ (name_of (functional_name ∷ []) ▸ of functional_end) Row.done
    ∷ []
shape_rows functional_end =
    (pairs ▸ semicolon) Row.done
    ∷ (parentheses balanced ▸ pairs ▸ braces balanced) Row.done
    ∷ []
shape_rows pair =
    whole (name ▸ sign Equals ▸ Row.form value) Row.done
    ∷ whole string Row.done
    ∷ []
shape_rows machine =
    whole (word Machine ▸ parentheses (of machine_name ▸ comma ▸ string ▸ pairs) ▸ colon ▸ repeated (of parameter) ▸ braces (repeated (of declaration))) Row.done
    ∷ []
shape_rows machine_name =
    (name_of (machine_type ∷ []) ▸ optional (at bare ▸ colon ▸ name)) Row.done
    ∷ name_of (other_name ∷ functional_name ∷ []) Row.done
    ∷ []
shape_rows parameter =
    whole (name ▸ optional (sign Star) ▸ name ▸ optional (assign ▸ of literal) ▸ pairs ▸ semicolon) Row.done ∷ []
shape_rows literal =
    whole (Row.token (number ∷ [])) Row.done
    ∷ whole (sign Minus ▸ Row.token (number ∷ [])) Row.done
    ∷ whole string Row.done
    ∷ whole (word True) Row.done
    ∷ whole (word False) Row.done
    ∷ []
shape_rows declaration =
    of states Row.done
    ∷ of enumeration Row.done
    ∷ of structure Row.done
    ∷ of out_port Row.done
    ∷ of in_port Row.done
    ∷ of action Row.done
    ∷ of transition Row.done
    ∷ whole (name ▸ of declaration_end) Row.done
    ∷ []
shape_rows declaration_end =
    (sign Star ▸ name ▸ pairs ▸ semicolon) Row.done
    ∷ (name_of (other_name ∷ machine_type ∷ []) ▸ of named_end) Row.done
    ∷ (name_of (functional_name ∷ []) ▸ of functional_end) Row.done
    ∷ []
shape_rows named_end =
    (pairs ▸ semicolon) Row.done
    ∷ (formals_part ▸ pairs ▸ of body) Row.done
    ∷ []
shape_rows body = of block Row.done ∷ semicolon Row.done ∷ []
shape_rows out_port = whole (word OutPort ▸ port_head ▸ semicolon) Row.done ∷ []
shape_rows in_port = whole (word InPort ▸ port_head ▸ of block) Row.done ∷ []
shape_rows action = whole (word Action ▸ parentheses (name ▸ pairs) ▸ of block) Row.done ∷ []
shape_rows transition =
    whole (word Transition ▸ parentheses (of names ▸ comma ▸ of names ▸ whole (optional (comma ▸ of transition_end))) ▸ braces (repeated (name ▸ semicolon))) Row.done
    ∷ []
shape_rows transition_end =
    (name ▸ at later ▸ optional (at sooner ▸ sign Equals ▸ Row.form value ▸ at close) ▸ more_pairs) Row.done
    ∷ (whole string ▸ more_pairs) Row.done
    ∷ (whole (sign Star) ▸ at later ▸ more_pairs) Row.done
    ∷ []
shape_rows names =
    name Row.done
    ∷ whole (braces (name ▸ repeated (comma ▸ name))) Row.done
    ∷ []
shape_rows formals = (of formal ▸ repeated (comma ▸ of formal)) Row.done ∷ []
shape_rows formal = whole (name ▸ optional (sign Star) ▸ optional name) Row.done ∷ []
shape_rows block = whole (braces (repeated (of statement))) Row.done ∷ []
shape_rows statement =
    whole (name ▸ of statement_end) Row.done
    ∷ whole (of opening ▸ operators_to 6 ▸ end_of_statement) Row.done
    ∷ whole (word Return ▸ optional (of expression) ▸ semicolon) Row.done
    ∷ whole (of conditional) Row.done
    ∷ whole (word Peek ▸ parentheses (name ▸ comma ▸ name ▸ pairs) ▸ of block) Row.done
    ∷ whole (word Enqueue ▸ parentheses (name ▸ comma ▸ name ▸ optional (comma ▸ of expression)) ▸ of block) Row.done
    ∷ whole (word StallAndWait ▸ parentheses (name ▸ comma ▸ of expression) ▸ semicolon) Row.done
    ∷ whole (word CheckAllocate ▸ parentheses name ▸ semicolon) Row.done
    ∷ whole (word Error ▸ parentheses string ▸ semicolon) Row.done
    ∷ whole (word Assert ▸ parentheses (of expression) ▸ semicolon) Row.done
    ∷ whole (Row.token (word_kind Dprintf ∷ word_kind AppendTransitionComment ∷ []) ▸ parentheses balanced ▸ semicolon) Row.done
    ∷ []
shape_rows statement_end =
    (name ▸ assign ▸ of expression ▸ semicolon) Row.done
    ∷ (name_ends ▸ operators_to 6 ▸ end_of_statement) Row.done
    ∷ []
shape_rows conditional =
    (word If ▸ parentheses (of expression) ▸ of block ▸ optional (word Else ▸ of otherwise)) Row.done ∷ []
shape_rows otherwise = of conditional Row.done ∷ of block Row.done ∷ []
shape_rows expression = expression_rows 6
shape_rows conjunction = expression_rows 5
shape_rows equality = expression_rows 4
shape_rows order = expression_rows 3
shape_rows sum = expression_rows 2
shape_rows product = expression_rows 1
shape_rows unary = expression_rows 0
shape_rows postfix = (of constant ▸ suffixes) Row.done ∷ front true Row.done ∷ []
shape_rows primary = of constant Row.done ∷ (name ▸ optional (of name_end)) Row.done ∷ []
shape_rows constant =
    whole (Row.token (number ∷ [])) Row.done
    ∷ whole (word True) Row.done
    ∷ whole (word False) Row.done
    ∷ whole (word Ood) Row.done
    ∷ whole (word New ▸ name) Row.done
    ∷ whole (word IsValid ▸ parentheses (of expression)) Row.done
    ∷ whole (word IsInvalid ▸ parentheses (of expression)) Row.done
    ∷ whole (word StaticCast ▸ parentheses (name ▸ comma ▸ optional (string ▸ comma) ▸ of expression)) Row.done
    ∷ whole (parentheses (of expression)) Row.done
    ∷ []
shape_rows opening =
    whole (sign Not ▸ of unary) Row.done
    ∷ whole (sign Minus ▸ of unary) Row.done
    ∷ (of constant ▸ suffixes) Row.done
    ∷ []
shape_rows name_end =
    (at wrap ▸ colon ▸ name ▸ at close) Row.done
    ∷ (at wrap ▸ arguments_part ▸ at close) Row.done
    ∷ []
shape_rows suffix =
    whole (sign Dot ▸ name ▸ optional arguments_part) Row.done
    ∷ whole (sign OpenBracket ▸ of expression ▸ sign CloseBracket) Row.done
    ∷ []
shape_rows arguments = (of expression ▸ repeated (comma ▸ of expression)) Row.done ∷ []
shape_rows balanced_part =
    Row.token unbracketed Row.done
    ∷ parentheses balanced Row.done
    ∷ (sign OpenBracket ▸ balanced ▸ sign CloseBracket) Row.done
    ∷ braces balanced Row.done
    ∷ []

abbrev pub step_rows : Step → List (Row Step)
step_rows (plain n) = shape_rows n
step_rows value = Row.token (quoted ∷ number ∷ []) Row.done ∷ name Row.done ∷ []
step_rows (mark m) = Row.done ∷ []

abbrev pub first_of_step : Step → List ℕ
first_of_step (plain n) = first_of_form n
first_of_step value = quoted ∷ number ∷ names_of
first_of_step (mark m) = []

abbrev pub further_of_step : Step → List ℕ
further_of_step (plain n) = further_of_form n
further_of_step _ = []

abbrev pub is_mark : Step → Bool
is_mark (mark m) = true
is_mark _ = false

abbrev pub shapes : Grammar Step
shapes = record { alternatives = step_rows; first = first_of_step; further = further_of_step; may_be_empty = is_mark; openers = [] }

abbrev pub shaper : Builder Step TokenKind Made
shaper = record { grammar = shapes; kind = kind_of; put = with_token; act = made_by }

-- the reader goes through the tokens by the row and the rows behind it, and comes from what was made to what is then made
abbrev pub Makes : Row Step → Rows Step → List TokenKind → Made → Made → Type 0
Makes = Builds shaper
