-- The members of declarations as rows of the grammar, and what each is spelled by before further parts.
use Rattle.std.specs.Prelude.{List}
use Rattle.slicc_ast.specs.declared.tree.balanced.Balanced.{Balanced}
use Rattle.slicc_ast.specs.declared.tree.declaration.Member.{Member}
use Rattle.slicc_ast.specs.declared.tree.declaration.Pair.{Pair}
use Rattle.slicc_ast.specs.declared.tree.declaration.Pairs.{Pairs}
use Rattle.slicc_ast.specs.declared.tree.declaration.State.{State}
use Rattle.slicc_ast.specs.declared.tree.declaration.Symbol.{Symbol}
use Rattle.slicc_ast.specs.declared.tree.name.Name.{Name}
use Rattle.slicc_ast.specs.declared.tree.token.Sign.TheVariants.{CloseBrace, CloseParenthesis, Colon, Comma, OpenBrace, OpenParenthesis, Semicolon}
use Rattle.slicc_ast.specs.Declarations.{pair, pairs as pairs_of}
use Rattle.slicc_ast.specs.Prelude.{member_list, Parts, part, functional_end, transition_end, ◌▸◌, braces, colon, comma, of, optional, parentheses, repeated, semicolon, skipped_name}
use Rattle.slicc_ast.specs.Names.{balanced as balanced_of, name as name_of, sign}
use Rattle.slicc_ast.specs.Form.Form.{member, names}
use Rattle.slicc_ast.specs.Parts.{Part, balanced, name, pairs, sign as sign_part}

-- a member of an enumeration
abbrev pub symbol_row : Part
symbol_row = name ▸ pairs ▸ semicolon

abbrev pub symbol_parts : Symbol → Parts → Parts
symbol_parts s others = name_of s.name (pairs_of s.pairs (sign Semicolon others))

-- a state
abbrev pub state_row : Part
state_row = name ▸ comma ▸ name ▸ colon ▸ name ▸ pairs ▸ semicolon

abbrev pub state_parts : State → Parts → Parts
state_parts s others =
    name_of s.name (sign Comma (name_of s.owner (sign Colon (name_of s.permission (pairs_of s.pairs (sign Semicolon others))))))

-- an action of a transition
abbrev pub action_row : Part
action_row = name ▸ semicolon

abbrev pub action_parts : Name → Parts → Parts
action_parts n others = name_of n (sign Semicolon others)

-- an attribute
abbrev pub pair_parts : Pair → Parts → Parts
pair_parts p others = sign Comma (part (pair p) others)

-- what a transition has in its parentheses
abbrev pub transition_inside : Part
transition_inside = of names ▸ comma ▸ of names ▸ optional (comma ▸ of transition_end)

-- members of a structure and `}`, and these in braces
abbrev pub members_row : Part
members_row = repeated (of member) ▸ sign_part CloseBrace

abbrev pub members_parts : List Member → Parts → Parts
members_parts ms others = member_list ms (sign CloseBrace others)

abbrev pub structure_row : Part
structure_row = braces (repeated (of member))

abbrev pub structure_parts : List Member → Parts → Parts
structure_parts ms others = sign OpenBrace (members_parts ms others)

-- a member behind its type, with the name of a function that is skipped
abbrev pub skipped_member_row : Part
skipped_member_row = skipped_name ▸ of functional_end

-- attributes and a body of a function that is skipped, and such a function behind its name
abbrev pub skipped_body_row : Part
skipped_body_row = pairs ▸ braces balanced

abbrev pub skipped_body_parts : Pairs → Balanced → Parts → Parts
skipped_body_parts attributes body others = pairs_of attributes (sign OpenBrace (balanced_of body (sign CloseBrace others)))

abbrev pub skipped_row : Part
skipped_row = parentheses balanced ▸ skipped_body_row

abbrev pub skipped_parts : Balanced → Pairs → Balanced → Parts → Parts
skipped_parts arguments attributes body others =
    sign OpenParenthesis (balanced_of arguments (sign CloseParenthesis (skipped_body_parts attributes body others)))
