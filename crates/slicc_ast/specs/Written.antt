-- The grammar of a file, a row an alternative, as it is written: one to read it by. This project takes what it needs of
-- gem5's SLICC. `type` is a name. A function named `functionalRead` or `functionalWrite` is skipped: its parts are any
-- tokens in which brackets close in pairs. In a machine's head the name before the colon is `MachineType`. Operators of
-- one level group to the left, which is no matter of lists of tokens. A nesting is what a bracket, brace, parenthesis or
-- unary operator opens.
use Rattle.std.specs.Prelude.{ℕ, false, List, [], ◌∷◌, map}
use Rattle.slicc_ast.specs.declared.tree.token.Word.TheVariants.{Protocol, Include, Machine, Enumeration, StateDeclaration, Structure, InPort, OutPort, Action, Transition, Peek, Enqueue, StallAndWait, CheckAllocate, If, Else, Return, True, False, Ood, New, IsValid, IsInvalid, StaticCast, Error, Assert, Dprintf, AppendTransitionComment}
use Rattle.slicc_ast.specs.declared.tree.token.Sign.TheVariants.{OpenBrace, OpenParenthesis, OpenBracket, Dot, Equals, Minus, Not}
use Rattle.slicc_ast.specs.Grammar.{Row, Grammar}
use Rattle.slicc_ast.specs.Form.{Form}
use Rattle.slicc_ast.specs.Form.Form.{file, item, enumeration, states, structure, member, pair, machine, parameter, literal, declaration, body, out_port, in_port, action, transition, names, formals, formal, block, statement, conditional, expression, conjunction, equality, order, sum, product, unary, postfix, primary, constant, suffix, arguments, balanced_part}
use Rattle.slicc_ast.specs.TokenKinds.{sign_kind}
use Rattle.slicc_ast.specs.Parts.{◌▸◌, rows, of, optional, repeated, word, sign, words, name, type, plain_name, skipped_name, machine_type_name, value, next_state, number_token, string, end_token, comma, colon, semicolon, assign, star, parentheses, braces, brackets, prefixed, pairs, balanced, products, sums, orders, equalities, conjunctions, disjunctions, unbracketed}
use Rattle.slicc_ast.specs.Ends.{rows_behind}
use Rattle.slicc_ast.specs.Ahead.{first_of_form, further_of_form}

abbrev pub written_rows : Form → List (Row Form)
written_rows file = rows (optional (word Protocol ▸ string ▸ semicolon) ▸ of item ▸ repeated (of item) ▸ end_token ∷ [])
written_rows item =
    rows (
    word Include ▸ string ▸ semicolon
    ∷ of enumeration
    ∷ of structure
    ∷ of machine
    ∷ [])
written_rows enumeration =
    rows (word Enumeration ▸ parentheses (name ▸ pairs) ▸ braces (repeated (name ▸ pairs ▸ semicolon)) ∷ [])
written_rows states =
    rows (
    word StateDeclaration ▸ parentheses (name ▸ pairs) ▸ braces (repeated (name ▸ comma ▸ name ▸ colon ▸ name ▸ pairs ▸ semicolon))
    ∷ [])
written_rows structure =
    rows (word Structure ▸ parentheses (name ▸ pairs) ▸ braces (repeated (of member)) ∷ [])
written_rows member =
    rows (
    type ▸ name ▸ pairs ▸ semicolon
    ∷ type ▸ plain_name ▸ parentheses (optional (of formals)) ▸ pairs ▸ semicolon
    ∷ type ▸ skipped_name ▸ parentheses balanced ▸ pairs ▸ braces balanced
    ∷ [])
written_rows pair =
    rows (
    name ▸ sign Equals ▸ value
    ∷ string
    ∷ [])
written_rows machine =
    rows (
    word Machine ▸ parentheses (optional (machine_type_name ▸ colon) ▸ name ▸ comma ▸ string ▸ pairs) ▸ colon
    ▸ repeated (of parameter) ▸ braces (repeated (of declaration))
    ∷ [])
written_rows parameter =
    rows (type ▸ optional star ▸ name ▸ optional (assign ▸ of literal) ▸ pairs ▸ semicolon ∷ [])
written_rows literal =
    rows (
    number_token
    ∷ sign Minus ▸ number_token
    ∷ string
    ∷ word True
    ∷ word False
    ∷ [])
written_rows declaration =
    rows (
    of states
    ∷ of enumeration
    ∷ of structure
    ∷ of out_port
    ∷ of in_port
    ∷ of action
    ∷ of transition
    ∷ type ▸ plain_name ▸ parentheses (optional (of formals)) ▸ pairs ▸ of body
    ∷ type ▸ skipped_name ▸ parentheses balanced ▸ pairs ▸ braces balanced
    ∷ type ▸ optional star ▸ name ▸ pairs ▸ semicolon
    ∷ [])
written_rows body = rows (of block ∷ semicolon ∷ [])
written_rows out_port =
    rows (word OutPort ▸ parentheses (name ▸ comma ▸ type ▸ comma ▸ name ▸ pairs) ▸ semicolon ∷ [])
written_rows in_port =
    rows (word InPort ▸ parentheses (name ▸ comma ▸ type ▸ comma ▸ name ▸ pairs) ▸ of block ∷ [])
written_rows action = rows (word Action ▸ parentheses (name ▸ pairs) ▸ of block ∷ [])
written_rows transition =
    rows (
    word Transition ▸ parentheses (of names ▸ comma ▸ of names ▸ optional (comma ▸ next_state) ▸ pairs)
    ▸ braces (repeated (name ▸ semicolon))
    ∷ [])
written_rows names =
    rows (
    name
    ∷ braces (name ▸ repeated (comma ▸ name))
    ∷ [])
written_rows formals = rows (of formal ▸ repeated (comma ▸ of formal) ∷ [])
written_rows formal = rows (type ▸ optional star ▸ optional name ∷ [])
written_rows block = rows (braces (repeated (of statement)) ∷ [])
written_rows statement =
    rows (
    type ▸ name ▸ assign ▸ of expression ▸ semicolon
    ∷ of expression ▸ assign ▸ of expression ▸ semicolon
    ∷ of expression ▸ semicolon
    ∷ word Return ▸ optional (of expression) ▸ semicolon
    ∷ of conditional
    ∷ word Peek ▸ parentheses (name ▸ comma ▸ type ▸ pairs) ▸ of block
    ∷ word Enqueue ▸ parentheses (name ▸ comma ▸ type ▸ optional (comma ▸ of expression)) ▸ of block
    ∷ word StallAndWait ▸ parentheses (name ▸ comma ▸ of expression) ▸ semicolon
    ∷ word CheckAllocate ▸ parentheses name ▸ semicolon
    ∷ word Error ▸ parentheses string ▸ semicolon
    ∷ word Assert ▸ parentheses (of expression) ▸ semicolon
    ∷ words (Dprintf ∷ AppendTransitionComment ∷ []) ▸ parentheses balanced ▸ semicolon
    ∷ [])
written_rows conditional =
    rows (
    word If ▸ parentheses (of expression) ▸ of block
    ▸ repeated (word Else ▸ word If ▸ parentheses (of expression) ▸ of block) ▸ optional (word Else ▸ of block)
    ∷ [])
written_rows expression = rows (of conjunction ▸ disjunctions ∷ [])
written_rows conjunction = rows (of equality ▸ conjunctions ∷ [])
written_rows equality = rows (of order ▸ equalities ∷ [])
written_rows order = rows (of sum ▸ orders ∷ [])
written_rows sum = rows (of product ▸ sums ∷ [])
written_rows product = rows (of unary ▸ products ∷ [])
written_rows unary =
    rows (
    prefixed Not (of unary)
    ∷ prefixed Minus (of unary)
    ∷ of postfix
    ∷ [])
written_rows postfix = rows (of primary ▸ repeated (of suffix) ∷ [])
written_rows primary =
    rows (
    of constant
    ∷ name
    ∷ name ▸ colon ▸ name
    ∷ name ▸ parentheses (optional (of arguments))
    ∷ [])
written_rows constant =
    rows (
    number_token
    ∷ word True
    ∷ word False
    ∷ word Ood
    ∷ word New ▸ name
    ∷ word IsValid ▸ parentheses (of expression)
    ∷ word IsInvalid ▸ parentheses (of expression)
    ∷ word StaticCast ▸ parentheses (type ▸ comma ▸ optional (string ▸ comma) ▸ of expression)
    ∷ parentheses (of expression)
    ∷ [])
written_rows suffix =
    rows (
    sign Dot ▸ name ▸ optional (parentheses (optional (of arguments)))
    ∷ brackets (of expression)
    ∷ [])
written_rows arguments = rows (of expression ▸ repeated (comma ▸ of expression) ∷ [])
written_rows balanced_part =
    rows (
    Row.token unbracketed
    ∷ parentheses balanced
    ∷ brackets balanced
    ∷ braces balanced
    ∷ [])
written_rows form = rows_behind form

-- The kinds of the tokens that open a nesting wherever they stand, viable or not. A minus sign opens one only where an
-- operand may stand, so it isn't among them.
abbrev pub openers : List ℕ
openers = map sign_kind (OpenBrace ∷ OpenParenthesis ∷ OpenBracket ∷ Not ∷ [])

-- the tokens that forms begin with stand here as well, though in this table one token ahead doesn't decide
abbrev pub written : Grammar Form
written =
    record {
      alternatives = written_rows;
      first = first_of_form;
      further = further_of_form;
      may_be_empty = λ form. false;
      openers = openers;
    }
