-- The parts that the rows of the grammar are made of. A part is what it puts before a row.
use Rattle.std.specs.Prelude.{ℕ, List, [], ◌∷◌, ◌++◌, map}
use Rattle.slicc_ast.specs.declared.tree.token.Word.{Word}
use Rattle.slicc_ast.specs.declared.tree.token.Word.TheVariants.{Protocol, Include, Machine, Enumeration, StateDeclaration, Structure, InPort, OutPort, Action, Transition, Peek, Enqueue, StallAndWait, CheckAllocate, If, Else, Return, True, False, Ood, New, IsValid, IsInvalid, StaticCast, Error, Assert, Dprintf, AppendTransitionComment, While}
use Rattle.slicc_ast.specs.declared.tree.token.Sign.{Sign}
use Rattle.slicc_ast.specs.declared.tree.token.Sign.TheVariants.{OpenBrace, CloseBrace, OpenParenthesis, CloseParenthesis, OpenBracket, CloseBracket, Semicolon, Colon, Comma, Dot, Equals, Assign, Equal, Unequal, Less, Greater, LessOrEqual, GreaterOrEqual, Plus, Minus, Star, Not, And, Or}
use Rattle.slicc_ast.specs.Grammar.{Row}
use Rattle.slicc_ast.specs.Grammar.Row.{done, token, form, maybe, many, nested}
use Rattle.slicc_ast.specs.Reader.{followed_by}
use Rattle.slicc_ast.specs.Form.{Form}
use Rattle.slicc_ast.specs.Form.Form.{unary, product, sum, order, equality, conjunction}
use Rattle.slicc_ast.specs.TokenKinds.{other_name, machine_type, functional_name, number, quoted, end_of_text, word_kind, sign_kind}

abbrev pub Part : Type 0
Part = Row Form → Row Form

-- one part behind another
infixr 70 ◌▸◌
abbrev pub ◌▸◌ : Part → Part → Part
◌▸◌ = followed_by

abbrev pub rows : List Part → List (Row Form)
rows parts = map (λ part. part done) parts

abbrev pub of : Form → Part
of = form

abbrev pub optional : Part → Part
optional part = maybe (part done)

abbrev pub repeated : Part → Part
repeated part = many (part done)

abbrev pub word : Word → Part
word w = token (word_kind w ∷ [])

abbrev pub sign : Sign → Part
sign s = token (sign_kind s ∷ [])

abbrev pub signs : List Sign → Part
signs ss = token (map sign_kind ss)

abbrev pub words : List Word → Part
words ws = token (map word_kind ws)

-- any name, and those of a kind
abbrev pub names_of : List ℕ
names_of = other_name ∷ machine_type ∷ functional_name ∷ []

abbrev pub name : Part
name = token names_of

abbrev pub type : Part
type = name

abbrev pub plain_name : Part
plain_name = token (other_name ∷ machine_type ∷ [])

abbrev pub skipped_name : Part
skipped_name = token (functional_name ∷ [])

abbrev pub machine_type_name : Part
machine_type_name = token (machine_type ∷ [])

abbrev pub other_than_machine_type : Part
other_than_machine_type = token (other_name ∷ functional_name ∷ [])

-- the value of an attribute
abbrev pub value : Part
value = token (quoted ∷ number ∷ names_of)

-- the next state of a transition: a name, or a star
abbrev pub next_state : Part
next_state = token (sign_kind Star ∷ names_of)

abbrev pub number_token : Part
number_token = token (number ∷ [])

abbrev pub string : Part
string = token (quoted ∷ [])

abbrev pub end_token : Part
end_token = token (end_of_text ∷ [])

abbrev pub comma : Part
comma = sign Comma

abbrev pub colon : Part
colon = sign Colon

abbrev pub semicolon : Part
semicolon = sign Semicolon

abbrev pub assign : Part
assign = sign Assign

abbrev pub star : Part
star = sign Star

abbrev pub parentheses : Part → Part
parentheses part = nested (sign_kind OpenParenthesis ∷ []) ((part ▸ sign CloseParenthesis) done)

abbrev pub braces : Part → Part
braces part = nested (sign_kind OpenBrace ∷ []) ((part ▸ sign CloseBrace) done)

abbrev pub brackets : Part → Part
brackets part = nested (sign_kind OpenBracket ∷ []) ((part ▸ sign CloseBracket) done)

-- an operator before its operand
abbrev pub prefixed : Sign → Part → Part
prefixed s part = nested (sign_kind s ∷ []) (part done)

abbrev pub pairs : Part
pairs = repeated (comma ▸ of Form.pair)

abbrev pub balanced : Part
balanced = repeated (of Form.balanced_part)

-- the operators behind an operand, level by level, each with operands of the next tighter level
abbrev pub products : Part
products = repeated (star ▸ of unary)

abbrev pub sums : Part
sums = repeated (signs (Plus ∷ Minus ∷ []) ▸ of product)

abbrev pub orders : Part
orders = repeated (signs (Less ∷ Greater ∷ LessOrEqual ∷ GreaterOrEqual ∷ []) ▸ of sum)

abbrev pub equalities : Part
equalities = repeated (signs (Equal ∷ Unequal ∷ []) ▸ of order)

abbrev pub conjunctions : Part
conjunctions = repeated (sign And ▸ of equality)

abbrev pub disjunctions : Part
disjunctions = repeated (sign Or ▸ of conjunction)

abbrev pub operators : Part
operators = products ▸ sums ▸ orders ▸ equalities ▸ conjunctions ▸ disjunctions

-- what a token of a balanced part may be, brackets aside: all kinds but those of the brackets and the end of the text
abbrev pub unbracketed : List ℕ
unbracketed =
    names_of ++ number ∷ quoted
    ∷ map word_kind (Protocol ∷ Include ∷ Machine ∷ Enumeration ∷ StateDeclaration ∷ Structure ∷ InPort ∷ OutPort ∷ Action ∷ Transition ∷ Peek ∷ Enqueue ∷ StallAndWait ∷ CheckAllocate ∷ If ∷ Else ∷ Return ∷ True ∷ False ∷ Ood ∷ New ∷ IsValid ∷ IsInvalid ∷ StaticCast ∷ Error ∷ Assert ∷ Dprintf ∷ AppendTransitionComment ∷ While ∷ [])
    ++ map sign_kind (Semicolon ∷ Colon ∷ Comma ∷ Dot ∷ Equals ∷ Assign ∷ Equal ∷ Unequal ∷ Less ∷ Greater ∷ LessOrEqual ∷ GreaterOrEqual ∷ Plus ∷ Minus ∷ Star ∷ Not ∷ And ∷ Or ∷ [])
