-- What a protocol declares: each declaration with its name and its place, in the order of reading and of the text.
use Rattle.std.specs.Prelude.{ℕ, Bool, false, Option, None, Some, List, [], ◌∷◌, ◌++◌, map, find, flat_map, codes}
use Rattle.std.specs.Str.{bytes_eq}
use Rattle.slicc_ast.specs.declared.tree.span.Span.{Span}
use Rattle.slicc_ast.specs.declared.tree.name.Name.{Name}
use Rattle.slicc_ast.specs.declared.tree.name.TypeName.{TypeName}
use Rattle.slicc_ast.specs.declared.tree.item.Tree.{Tree}
use Rattle.slicc_ast.specs.declared.tree.item.Item.{Item}
use Rattle.slicc_ast.specs.declared.tree.item.Item.TheVariants.{Include, Enumeration as EnumerationItem, Structure as StructureItem, Machine as MachineItem}
use Rattle.slicc_ast.specs.declared.tree.machine.Machine.{Machine}
use Rattle.slicc_ast.specs.declared.tree.machine.Parameter.{Parameter}
use Rattle.slicc_ast.specs.declared.tree.machine.Object.{Object}
use Rattle.slicc_ast.specs.declared.tree.machine.OutPort.{OutPort}
use Rattle.slicc_ast.specs.declared.tree.machine.InPort.{InPort}
use Rattle.slicc_ast.specs.declared.tree.machine.Action.{Action}
use Rattle.slicc_ast.specs.declared.tree.machine.Decl.{Decl}
use Rattle.slicc_ast.specs.declared.tree.machine.Decl.TheVariants.{States as StatesDecl, Enumeration as EnumerationDecl, Structure as StructureDecl, OutPort as OutPortDecl, InPort as InPortDecl, Action as ActionDecl, Transition, Function as FunctionDecl, Object as ObjectDecl}
use Rattle.slicc_ast.specs.declared.tree.declaration.Enumeration.{Enumeration}
use Rattle.slicc_ast.specs.declared.tree.declaration.Symbol.{Symbol}
use Rattle.slicc_ast.specs.declared.tree.declaration.States.{States}
use Rattle.slicc_ast.specs.declared.tree.declaration.State.{State}
use Rattle.slicc_ast.specs.declared.tree.declaration.Structure.{Structure}
use Rattle.slicc_ast.specs.declared.tree.declaration.Member.{Member}
use Rattle.slicc_ast.specs.declared.tree.declaration.Member.TheVariants.{Field, Method, Skipped as SkippedMember}
use Rattle.slicc_ast.specs.declared.tree.declaration.Function.{Function}
use Rattle.slicc_ast.specs.declared.tree.declaration.Function.TheVariants.{Plain, Skipped}
use Rattle.slicc_ast.specs.declared.tree.declaration.Formal.{Formal}
use Rattle.slicc_plan.specs.Attributes.{has_attribute}

pub data Declaration : Type 0 where
  machine : Machine → Declaration
  enumeration : Enumeration → Declaration
  structure : Structure → Declaration
  states : States → Declaration
  parameter : Parameter → Declaration
  object : Object → Declaration
  out_port : OutPort → Declaration
  in_port : InPort → Declaration
  action : Action → Declaration
  -- with a body, without one, or one that is read and not looked at
  function : Function → Declaration
  -- a member of an enumeration, of a state declaration and of a structure
  symbol : Symbol → Declaration
  state : State → Declaration
  member : Member → Declaration
  formal : Formal → Declaration
  local : TypeName → Name → Span → Declaration

abbrev pub function_name : Function → Name
function_name (Plain kind called formals attributes body span) = called
function_name (Skipped s) = s.name

abbrev pub function_span : Function → Span
function_span (Plain kind called formals attributes body span) = span
function_span (Skipped s) = s.span

abbrev pub member_name : Member → Name
member_name (Field kind called attributes span) = called
member_name (Method kind called formals attributes span) = called
member_name (SkippedMember s) = s.name

abbrev pub member_span : Member → Span
member_span (Field kind called attributes span) = span
member_span (Method kind called formals attributes span) = span
member_span (SkippedMember s) = s.span

-- the name that is declared, which a formal may lack
abbrev pub name_of : Declaration → Option Name
name_of (machine m) = Some m.name
name_of (enumeration e) = Some e.name
name_of (structure s) = Some s.name
name_of (states s) = Some s.name
name_of (parameter p) = Some p.name
name_of (object o) = Some o.name
name_of (out_port p) = Some p.name
name_of (in_port p) = Some p.name
name_of (action a) = Some a.name
name_of (function f) = Some (function_name f)
name_of (symbol s) = Some s.name
name_of (state s) = Some s.name
name_of (member m) = Some (member_name m)
name_of (formal f) = f.name
name_of (local kind called span) = Some called

-- the whole declaration; that of a member of an enumeration starts with its name
abbrev pub place_of : Declaration → Span
place_of (machine m) = m.span
place_of (enumeration e) = e.span
place_of (structure s) = s.span
place_of (states s) = s.span
place_of (parameter p) = p.span
place_of (object o) = o.span
place_of (out_port p) = p.span
place_of (in_port p) = p.span
place_of (action a) = a.span
place_of (function f) = function_span f
place_of (symbol s) = s.name.span
place_of (state s) = s.name.span
place_of (member m) = member_span m
place_of (formal f) = f.span
place_of (local kind called span) = span

abbrev pub is_text : List ℕ → Option Name → Bool
is_text text None = false
is_text text (Some n) = bytes_eq n.text text

abbrev pub is_named : List ℕ → Declaration → Bool
is_named text d = is_text text (name_of d)

-- the first of the declarations that has this name
abbrev pub first_named : List ℕ → List Declaration → Option Declaration
first_named text declarations = find (is_named text) declarations

-- a structure that stands for a built-in table, whose members aren't looked at
abbrev pub is_external : Structure → Bool
is_external s = has_attribute (codes "external") (codes "yes") s.pairs

-- What is declared right in a protocol, and what right in a machine. A transition has no name.

abbrev pub item_declarations : Item → List Declaration
item_declarations (Include text span) = []
item_declarations (EnumerationItem e) = enumeration e ∷ []
item_declarations (StructureItem s) = structure s ∷ []
item_declarations (MachineItem m) = machine m ∷ []

abbrev pub global_declarations : List Tree → List Declaration
global_declarations trees = flat_map (λ (t : Tree). flat_map item_declarations t.items) trees

abbrev pub named_declarations : Decl → List Declaration
named_declarations (StatesDecl s) = states s ∷ []
named_declarations (EnumerationDecl e) = enumeration e ∷ []
named_declarations (StructureDecl s) = structure s ∷ []
named_declarations (OutPortDecl p) = out_port p ∷ []
named_declarations (InPortDecl p) = in_port p ∷ []
named_declarations (ActionDecl a) = action a ∷ []
named_declarations (Transition t) = []
named_declarations (FunctionDecl f) = function f ∷ []
named_declarations (ObjectDecl o) = object o ∷ []

abbrev pub machine_declarations : Machine → List Declaration
machine_declarations m = map parameter m.parameters ++ flat_map named_declarations m.declarations

abbrev pub machine_in : Declaration → List Machine
machine_in (machine m) = m ∷ []
machine_in _ = []

-- the machines of a protocol, by which they are numbered
abbrev pub machines_of : List Tree → List Machine
machines_of trees = flat_map machine_in (global_declarations trees)

abbrev pub machine_names : List Tree → List (List ℕ)
machine_names trees = map (λ (m : Machine). m.name.text) (machines_of trees)

-- where a declaration is made: right in the protocol, or in a machine
pub data Scope : Type 0 where
  everywhere : Scope
  within : Machine → Scope

abbrev pub declared_in : List Tree → Scope → List Declaration
declared_in trees everywhere = global_declarations trees
declared_in trees (within m) = machine_declarations m

-- those scopes, the widest first
abbrev pub wide_scopes : List Tree → List Scope
wide_scopes trees = everywhere ∷ map within (machines_of trees)
