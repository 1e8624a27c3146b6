-- The parts of declarations and files as rows of the grammar, and what each is spelled by before further parts.
use Rattle.std.specs.Prelude.{ℕ, Option, Some, None, List, [], ◌∷◌}
use Rattle.slicc_ast.specs.declared.tree.declaration.Formals.{Formals}
use Rattle.slicc_ast.specs.declared.tree.declaration.Pairs.{Pairs}
use Rattle.slicc_ast.specs.declared.tree.item.Item.{Item}
use Rattle.slicc_ast.specs.declared.tree.machine.Decl.{Decl}
use Rattle.slicc_ast.specs.declared.tree.machine.Parameter.{Parameter}
use Rattle.slicc_ast.specs.declared.tree.statement.Block.{Block}
use Rattle.slicc_ast.specs.declared.tree.token.Sign.TheVariants.{CloseBrace, Colon, OpenBrace, Semicolon}
use Rattle.slicc_ast.specs.declared.tree.token.Word.TheVariants.{Action, Enumeration, InPort, OutPort, Protocol, StateDeclaration, Structure, Transition}
use Rattle.slicc_ast.specs.Declarations.{formals as formals_of, pairs as pairs_of}
use Rattle.slicc_ast.specs.Prelude.{decl_list, parameter_list, Parts, part, protocol_parts, body, declaration, declaration_end, functional_end, machine_name, named_end, ◌▸◌, braces, colon, comma, of, optional, parentheses, plain_name, repeated, semicolon, skipped_name, string, type, word_kind}
use Rattle.slicc_ast.specs.Names.{sign as sign_of}
use Rattle.slicc_ast.specs.Statements.{block}
use Rattle.slicc_ast.specs.Trees.{item as item_of}
use Rattle.slicc_ast.specs.Form.Form.{formals, item, parameter}
use Rattle.slicc_ast.specs.Parts.{Part, name, pairs, sign, star, word}

-- a function's body, or `;`
abbrev pub body_parts : Option Block → Parts → Parts
body_parts None others = sign_of Semicolon others
body_parts (Some b) others = block b others

-- attributes and a body
abbrev pub ending_row : Part
ending_row = pairs ▸ of body

abbrev pub ending_parts : Pairs → Option Block → Parts → Parts
ending_parts attributes b others = pairs_of attributes (body_parts b others)

-- a function behind its name
abbrev pub function_row : Part
function_row = parentheses (optional (of formals)) ▸ ending_row

abbrev pub function_parts : Formals → Pairs → Option Block → Parts → Parts
function_parts parameters attributes b others = formals_of parameters (ending_parts attributes b others)

-- an object behind its name, and one with a star behind its type
abbrev pub object_row : Part
object_row = pairs ▸ semicolon

abbrev pub starred_row : Part
starred_row = star ▸ name ▸ object_row

-- functions and objects behind their types, by the kind of their names, and these with their types
abbrev pub plain_row : Part
plain_row = plain_name ▸ of named_end

abbrev pub skipped_row : Part
skipped_row = skipped_name ▸ of functional_end

abbrev pub typed_row : Part
typed_row = type ▸ of declaration_end

-- the words that declarations of types begin with, and those of what a machine does
abbrev pub words_of_kinds : List ℕ
words_of_kinds = word_kind StateDeclaration ∷ word_kind Enumeration ∷ word_kind Structure ∷ []

abbrev pub words_of_rules : List ℕ
words_of_rules = word_kind OutPort ∷ word_kind InPort ∷ word_kind Action ∷ word_kind Transition ∷ []

-- declarations and `}`, and these in braces
abbrev pub closed_row : Part
closed_row = repeated (of declaration) ▸ sign CloseBrace

abbrev pub closed_parts : List Decl → Parts → Parts
closed_parts ds others = decl_list ds (sign_of CloseBrace others)

abbrev pub braces_row : Part
braces_row = braces (repeated (of declaration))

abbrev pub braces_parts : List Decl → Parts → Parts
braces_parts ds others = sign_of OpenBrace (closed_parts ds others)

-- what a machine has in its parentheses, and what is behind these
abbrev pub head_row : Part
head_row = of machine_name ▸ comma ▸ string ▸ pairs

abbrev pub machine_row : Part
machine_row = colon ▸ repeated (of parameter) ▸ braces_row

abbrev pub machine_parts : List Parameter → List Decl → Parts → Parts
machine_parts ps ds others = sign_of Colon (parameter_list ps (braces_parts ds others))

-- the name of a protocol, the items of a file, and both
abbrev pub protocol_row : Part
protocol_row = word Protocol ▸ string ▸ semicolon

abbrev pub items_row : Part
items_row = of item ▸ repeated (of item)

abbrev pub items_parts : List Item → Parts → Parts
items_parts [] others = others
items_parts (first ∷ more) others = part (item_of first) (items_parts more others)

abbrev pub file_row : Part
file_row = optional protocol_row ▸ items_row

abbrev pub file_parts : Option (List ℕ) → List Item → Parts → Parts
file_parts protocol is others = protocol_parts protocol (items_parts is others)
