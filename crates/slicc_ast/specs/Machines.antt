-- A machine and its declarations as rows of parts.
use Rattle.std.specs.Prelude.{◌==◌, Bool, true, false, not, Option, Some, None, List, [], ◌∷◌, length, codes}
use Rattle.slicc_ast.specs.declared.tree.token.TokenKind.TheVariants.{Name as Named, Number, Quoted}
use Rattle.slicc_ast.specs.declared.tree.token.Word.TheVariants.{Machine as MachineWord, InPort as InPortWord, OutPort as OutPortWord, Action as ActionWord, Transition as TransitionWord, True as TrueWord, False as FalseWord}
use Rattle.slicc_ast.specs.declared.tree.token.Sign.TheVariants.{OpenBrace, CloseBrace, OpenParenthesis, CloseParenthesis, Semicolon, Colon, Comma, Minus as MinusSign, Star, Assign}
use Rattle.slicc_ast.specs.declared.tree.name.Name.{Name}
use Rattle.slicc_ast.specs.declared.tree.statement.Block.{Block}
use Rattle.slicc_ast.specs.declared.tree.declaration.Function.{Function}
use Rattle.slicc_ast.specs.declared.tree.declaration.Function.TheVariants.{Plain, Skipped}
use Rattle.slicc_ast.specs.declared.tree.machine.Machine.{Machine}
use Rattle.slicc_ast.specs.declared.tree.machine.Parameter.{Parameter}
use Rattle.slicc_ast.specs.declared.tree.machine.Literal.{Literal}
use Rattle.slicc_ast.specs.declared.tree.machine.Literal.TheVariants.{Number as NumberLiteral, Minus as MinusLiteral, Quoted as QuotedLiteral, True as TrueLiteral, False as FalseLiteral}
use Rattle.slicc_ast.specs.declared.tree.machine.Decl.{Decl}
use Rattle.slicc_ast.specs.declared.tree.machine.Decl.TheVariants.{States, Enumeration, Structure, OutPort as OutPortDecl, InPort as InPortDecl, Action as ActionDecl, Transition as TransitionDecl, Function as FunctionDecl, Object as ObjectDecl}
use Rattle.slicc_ast.specs.declared.tree.machine.OutPort.{OutPort}
use Rattle.slicc_ast.specs.declared.tree.machine.InPort.{InPort}
use Rattle.slicc_ast.specs.declared.tree.machine.Action.{Action}
use Rattle.slicc_ast.specs.declared.tree.machine.Transition.{Transition}
use Rattle.slicc_ast.specs.declared.tree.machine.NextState.{NextState}
use Rattle.slicc_ast.specs.declared.tree.machine.NextState.TheVariants.{Named as NamedState, Asked}
use Rattle.slicc_ast.specs.declared.tree.machine.Names.{Names}
use Rattle.slicc_ast.specs.declared.tree.machine.Names.TheVariants.{One, Several}
use Rattle.slicc_ast.specs.declared.tree.machine.Object.{Object}
use Rattle.slicc_ast.specs.Outline.{Outline, node, Parts, none, token, part, provided}
use Rattle.slicc_ast.specs.Names.{word, sign, star, name, type_name}
use Rattle.slicc_ast.specs.Declarations.{pairs, formals, is_skipped, skipped, states, enumeration, structure}
use Rattle.slicc_ast.specs.Statements.{block}

-- outport := out_port ( NAME , type , NAME pairs ) ;
abbrev pub out_port : OutPort → Outline
out_port p =
    node p.span (word OutPortWord (sign OpenParenthesis (name p.name (sign Comma (type_name p.message (sign Comma
    (name p.buffer (pairs p.pairs (sign CloseParenthesis (sign Semicolon none))))))))))

-- inport := in_port ( NAME , type , NAME pairs ) block
abbrev pub in_port : InPort → Outline
in_port p =
    node p.span (word InPortWord (sign OpenParenthesis (name p.name (sign Comma (type_name p.message (sign Comma
    (name p.buffer (pairs p.pairs (sign CloseParenthesis (block p.body none))))))))))

-- action := action ( NAME pairs ) block
abbrev pub action : Action → Outline
action a =
    node a.span (word ActionWord (sign OpenParenthesis (name a.name (pairs a.pairs (sign CloseParenthesis
    (block a.body none))))))

abbrev pub more_names : List Name → Parts → Parts
more_names [] parts = parts
more_names (first ∷ others) parts = sign Comma (name first (more_names others parts))

abbrev pub name_list : List Name → Parts → Parts
name_list [] parts = parts
name_list (first ∷ others) parts = name first (more_names others parts)

-- names := NAME | { NAME { , NAME } }
abbrev pub names : Names → Parts → Parts
names (One n) parts = name n parts
names (Several ns span) parts =
    part (node span (provided (not (length ns == 0)) (sign OpenBrace (name_list ns (sign CloseBrace none))))) parts

-- [ , ( NAME | * ) ]
abbrev pub next_parts : Option NextState → Parts → Parts
next_parts None parts = parts
next_parts (Some (NamedState n)) parts = sign Comma (name n parts)
next_parts (Some (Asked span)) parts = sign Comma (part (node span (sign Star none)) parts)

-- NAME ;
abbrev pub action_list : List Name → Parts → Parts
action_list [] parts = parts
action_list (first ∷ others) parts = name first (sign Semicolon (action_list others parts))

-- trans := transition ( names , names [ , ( NAME | * ) ] pairs ) { actions }
abbrev pub transition : Transition → Outline
transition t =
    node t.span (word TransitionWord (sign OpenParenthesis (names t.states (sign Comma (names t.events
    (next_parts t.next (pairs t.pairs (sign CloseParenthesis
    (sign OpenBrace (action_list t.actions (sign CloseBrace none)))))))))))

-- ( block | ; )
abbrev pub function_body : Option Block → Parts
function_body None = sign Semicolon none
function_body (Some b) = block b none

-- func := type NAME ( [ formals ] ) pairs ( block | ; ) | skipped
abbrev pub function : Function → Outline
function (Plain kind called parameters attributes body span) =
    node span (provided (not (is_skipped called)) (type_name kind (name called (formals parameters
    (pairs attributes (function_body body))))))
function (Skipped s) = skipped s

-- object := type [ * ] NAME pairs ;
abbrev pub object : Object → Outline
object o = node o.span (type_name o.kind (star o.has_star (name o.name (pairs o.pairs (sign Semicolon none)))))

-- decl := states | enum | struct | outport | inport | action | trans | func | object
abbrev pub decl : Decl → Outline
decl (States s) = states s
decl (Enumeration e) = enumeration e
decl (Structure s) = structure s
decl (OutPortDecl p) = out_port p
decl (InPortDecl p) = in_port p
decl (ActionDecl a) = action a
decl (TransitionDecl t) = transition t
decl (FunctionDecl f) = function f
decl (ObjectDecl o) = object o

-- literal := NUMBER | - NUMBER | STRING | true | false
abbrev pub literal : Literal → Outline
literal (NumberLiteral n span) = node span (token (Number n) none)
literal (MinusLiteral n span) = node span (sign MinusSign (token (Number n) none))
literal (QuotedLiteral text span) = node span (token (Quoted text) none)
literal (TrueLiteral span) = node span (word TrueWord none)
literal (FalseLiteral span) = node span (word FalseWord none)

-- [ := literal ]
abbrev pub literal_parts : Option Literal → Parts → Parts
literal_parts None parts = parts
literal_parts (Some l) parts = sign Assign (part (literal l) parts)

-- param := type [ * ] NAME [ := literal ] pairs ;
abbrev pub parameter : Parameter → Outline
parameter p =
    node p.span (type_name p.kind (star p.has_star (name p.name (literal_parts p.literal (pairs p.pairs
    (sign Semicolon none))))))

abbrev pub parameter_list : List Parameter → Parts → Parts
parameter_list [] parts = parts
parameter_list (first ∷ others) parts = part (parameter first) (parameter_list others parts)

abbrev pub decl_list : List Decl → Parts → Parts
decl_list [] parts = parts
decl_list (first ∷ others) parts = part (decl first) (decl_list others parts)

-- [ NAME : ], where the name is `MachineType`
abbrev pub type_parts : Bool → Parts → Parts
type_parts true parts = token (Named (codes "MachineType")) (sign Colon parts)
type_parts false parts = parts

-- machine := machine ( [ NAME : ] NAME , STRING pairs ) : parameters { decls }
abbrev pub machine : Machine → Outline
machine m =
    node m.span (word MachineWord (sign OpenParenthesis (type_parts m.has_type (name m.name (sign Comma
    (token (Quoted m.title) (pairs m.pairs (sign CloseParenthesis (sign Colon
    (parameter_list m.parameters (sign OpenBrace (decl_list m.declarations (sign CloseBrace none)))))))))))))
