-- Declarations that have no statements in them as rows of parts: attributes, formals, enumerations and structures.
use Rattle.std.specs.Prelude.{◌||◌, Bool, not, Option, Some, None, List, [], ◌∷◌, codes}
use Rattle.std.specs.Str.{bytes_eq}
use Rattle.slicc_ast.specs.declared.tree.token.TokenKind.TheVariants.{Number, Quoted}
use Rattle.slicc_ast.specs.declared.tree.token.Word.TheVariants.{Enumeration as EnumerationWord, StateDeclaration, Structure as StructureWord}
use Rattle.slicc_ast.specs.declared.tree.token.Sign.TheVariants.{OpenBrace, CloseBrace, OpenParenthesis, CloseParenthesis, Semicolon, Colon, Comma, Equals}
use Rattle.slicc_ast.specs.declared.tree.name.Name.{Name}
use Rattle.slicc_ast.specs.declared.tree.declaration.Pairs.{Pairs}
use Rattle.slicc_ast.specs.declared.tree.declaration.Pair.{Pair}
use Rattle.slicc_ast.specs.declared.tree.declaration.Pair.TheVariants.{Named, Bare}
use Rattle.slicc_ast.specs.declared.tree.declaration.PairValue.{PairValue}
use Rattle.slicc_ast.specs.declared.tree.declaration.PairValue.TheVariants.{Quoted as QuotedValue, Number as NumberValue, Name as NameValue}
use Rattle.slicc_ast.specs.declared.tree.declaration.Formals.{Formals}
use Rattle.slicc_ast.specs.declared.tree.declaration.Formal.{Formal}
use Rattle.slicc_ast.specs.declared.tree.declaration.Skipped.{Skipped}
use Rattle.slicc_ast.specs.declared.tree.declaration.Enumeration.{Enumeration}
use Rattle.slicc_ast.specs.declared.tree.declaration.Symbol.{Symbol}
use Rattle.slicc_ast.specs.declared.tree.declaration.States.{States}
use Rattle.slicc_ast.specs.declared.tree.declaration.State.{State}
use Rattle.slicc_ast.specs.declared.tree.declaration.Structure.{Structure}
use Rattle.slicc_ast.specs.declared.tree.declaration.Member.{Member}
use Rattle.slicc_ast.specs.declared.tree.declaration.Member.TheVariants.{Field, Method, Skipped as SkippedMember}
use Rattle.slicc_ast.specs.Outline.{Outline, node, Parts, none, token, part, provided}
use Rattle.slicc_ast.specs.Names.{word, sign, star, name, type_name, balanced}

-- ( STRING | NUMBER | NAME )
abbrev pub pair_value : PairValue → Parts → Parts
pair_value (QuotedValue text) parts = token (Quoted text) parts
pair_value (NumberValue n) parts = token (Number n) parts
pair_value (NameValue n) parts = name n parts

-- pair := NAME = value | STRING
abbrev pub pair : Pair → Outline
pair (Named key value span) = node span (name key (sign Equals (pair_value value none)))
pair (Bare text span) = node span (token (Quoted text) none)

abbrev pub pair_list : List Pair → Parts
pair_list [] = none
pair_list (first ∷ others) = sign Comma (part (pair first) (pair_list others))

-- pairs := { , pair }
abbrev pub pairs : Pairs → Parts → Parts
pairs p parts = part (node p.span (pair_list p.items)) parts

abbrev pub optional_name : Option Name → Parts → Parts
optional_name None parts = parts
optional_name (Some n) parts = name n parts

-- formal := type [ * ] [ NAME ]
abbrev pub formal : Formal → Outline
formal f = node f.span (type_name f.kind (star f.has_star (optional_name f.name none)))

abbrev pub more_formals : List Formal → Parts
more_formals [] = none
more_formals (first ∷ others) = sign Comma (part (formal first) (more_formals others))

abbrev pub formal_list : List Formal → Parts
formal_list [] = none
formal_list (first ∷ others) = part (formal first) (more_formals others)

-- ( [ formals ] )
abbrev pub formals : Formals → Parts → Parts
formals f parts = sign OpenParenthesis (part (node f.span (formal_list f.items)) (sign CloseParenthesis parts))

-- the names of functions that are read and not looked at
abbrev pub is_skipped : Name → Bool
is_skipped n = bytes_eq n.text (codes "functionalRead") || bytes_eq n.text (codes "functionalWrite")

-- skipped := type NAME ( balanced ) pairs { balanced }, where the name is one of these two
abbrev pub skipped : Skipped → Outline
skipped s =
    node s.span (provided (is_skipped s.name) (type_name s.kind (name s.name
    (sign OpenParenthesis (balanced s.arguments (sign CloseParenthesis (pairs s.pairs
    (sign OpenBrace (balanced s.body (sign CloseBrace none))))))))))

-- NAME pairs ;
abbrev pub symbol_list : List Symbol → Parts → Parts
symbol_list [] parts = parts
symbol_list (first ∷ others) parts = name first.name (pairs first.pairs (sign Semicolon (symbol_list others parts)))

-- enum := enumeration ( NAME pairs ) { symbols }
abbrev pub enumeration : Enumeration → Outline
enumeration e =
    node e.span (word EnumerationWord (sign OpenParenthesis (name e.name (pairs e.pairs (sign CloseParenthesis
    (sign OpenBrace (symbol_list e.members (sign CloseBrace none))))))))

-- NAME , NAME : NAME pairs ;
abbrev pub state_list : List State → Parts → Parts
state_list [] parts = parts
state_list (first ∷ others) parts =
    name first.name (sign Comma (name first.owner (sign Colon (name first.permission (pairs first.pairs
    (sign Semicolon (state_list others parts)))))))

-- states := state_declaration ( NAME pairs ) { states }
abbrev pub states : States → Outline
states s =
    node s.span (word StateDeclaration (sign OpenParenthesis (name s.name (pairs s.pairs (sign CloseParenthesis
    (sign OpenBrace (state_list s.members (sign CloseBrace none))))))))

-- member := type NAME pairs ; | type NAME ( [ formals ] ) pairs ; | skipped
abbrev pub member : Member → Outline
member (Field kind field attributes span) = node span (type_name kind (name field (pairs attributes (sign Semicolon none))))
member (Method kind method parameters attributes span) =
    node span (provided (not (is_skipped method)) (type_name kind (name method (formals parameters
    (pairs attributes (sign Semicolon none))))))
member (SkippedMember s) = skipped s

abbrev pub member_list : List Member → Parts → Parts
member_list [] parts = parts
member_list (first ∷ others) parts = part (member first) (member_list others parts)

-- struct := structure ( NAME pairs ) { members }
abbrev pub structure : Structure → Outline
structure s =
    node s.span (word StructureWord (sign OpenParenthesis (name s.name (pairs s.pairs (sign CloseParenthesis
    (sign OpenBrace (member_list s.members (sign CloseBrace none))))))))
