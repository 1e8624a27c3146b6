-- What names stand for in a body. Names of values are those of locals and formals, of the messages that are looked at and made,
-- in an action `address`, and `cache_entry` and `tbe` where the machine has such lines, then those of the machine's parameters,
-- objects and ports, and in all bodies `machineID` and `recycle_latency`. An inner name hides an outer one, of whatever kind. A
-- name of a value where a type or a call has to be is one in a wrong role; another name there is one that isn't there.
use Rattle.std.specs.Prelude.{ℕ, Bool, true, false, cond, Option, None, Some, List, [], ◌∷◌, ◌++◌, find, codes}
use Rattle.std.specs.Str.{bytes_eq}
use Rattle.slicc_ast.specs.declared.tree.span.Span.{Span}
use Rattle.slicc_ast.specs.declared.tree.name.Name.{Name}
use Rattle.slicc_ast.specs.declared.tree.item.Tree.{Tree}
use Rattle.slicc_ast.specs.declared.tree.machine.Machine.{Machine}
use Rattle.slicc_ast.specs.declared.tree.declaration.Structure.{Structure}
use Rattle.slicc_plan.specs.declared.broken.Broken.{Broken}
use Rattle.slicc_plan.specs.declared.broken.Rule.TheVariants.{NotThere, WrongType}
use Rattle.slicc_plan.specs.declared.built_in.BuiltInType.TheVariants.{Int, Address, MachineId, AbstractEntry}
use Rattle.slicc_plan.specs.BuiltInCalls.{Allowed, anywhere, in_ports, in_actions}
use Rattle.slicc_plan.specs.Declarations.{Declaration, parameter, object, in_port as in_port_declaration, out_port as out_port_declaration, within, first_named, machine_declarations}
use Rattle.slicc_plan.specs.Machines.{entry_structure, tbe_structure}
use Rattle.slicc_plan.specs.Meanings.{Meaning, value, in_port, out_port, Wanted, line_of_structure, message_type, object_of_type, told, unfit}
use Rattle.slicc_plan.specs.Types.{KnownType, built_in, is_built_in, type_in}

-- the sorts of bodies
pub data BodySort : Type 0 where
  of_port : BodySort
  of_action : BodySort
  of_function : BodySort

-- a name of a value
pub record Bound : Type 0 where
  pub name : List ℕ
  pub meaning : Meaning
  pub is_local : Bool

pub record Environment : Type 0 where
  pub trees : List Tree
  pub machine : Machine
  pub body : BodySort
  -- what `return` gives
  pub answer : Meaning
  -- the names of the body, the innermost first
  pub bound : List Bound

abbrev pub fixed : List ℕ → Meaning → Bound
fixed name meaning = record { name = name; meaning = meaning; is_local = false }

abbrev pub local_name : List ℕ → Meaning → Bound
local_name name meaning = record { name = name; meaning = meaning; is_local = true }

-- with one more name, which hides others
abbrev pub binding : Environment → Bound → Environment
binding env b = record { trees = env.trees; machine = env.machine; body = env.body; answer = env.answer; bound = b ∷ env.bound }

-- Names of values.

abbrev pub line_name : Machine → List ℕ → Option Structure → List Bound
line_name m name None = []
line_name m name (Some s) = fixed name (line_of_structure m (Some s)) ∷ []

abbrev pub action_names : Machine → List Bound
action_names m =
    fixed (codes "address") (value (built_in Address)) ∷ line_name m (codes "cache_entry") (entry_structure m)
    ++ line_name m (codes "tbe") (tbe_structure m)

abbrev pub names_everywhere : List Bound
names_everywhere =
    fixed (codes "machineID") (value (built_in MachineId)) ∷ fixed (codes "recycle_latency") (value (built_in Int)) ∷ []

abbrev pub bound_as : List ℕ → List Bound → Option Bound
bound_as text names = find (λ (b : Bound). bytes_eq b.name text) names

-- the value that a declaration of the machine declares
abbrev pub declared_value : List Tree → Machine → Declaration → Option Bound
declared_value trees m (parameter p) =
    Some (fixed p.name.text (object_of_type m (type_in trees (within m) p.kind.text)))
declared_value trees m (object o) =
    Some (fixed o.name.text (object_of_type m (type_in trees (within m) o.kind.text)))
declared_value trees m (in_port_declaration p) =
    Some (fixed p.name.text (in_port (message_type (type_in trees (within m) p.message.text))))
declared_value trees m (out_port_declaration p) =
    Some (fixed p.name.text (out_port (message_type (type_in trees (within m) p.message.text))))
declared_value trees m _ = None

abbrev pub value_outside : List Tree → Machine → List ℕ → Option Declaration → Option Bound
value_outside trees m text None = bound_as text names_everywhere
value_outside trees m text (Some d) = declared_value trees m d

-- where that is bound by the name in the body
abbrev pub value_within : Environment → List ℕ → Option Bound → Option Bound
value_within env text None =
    value_outside env.trees env.machine text (first_named text (machine_declarations env.machine))
value_within env text (Some b) = Some b

abbrev pub value_named : Environment → List ℕ → Option Bound
value_named env text = value_within env text (bound_as text env.bound)

abbrev pub meaning_of_found : Option Bound → Option Meaning
meaning_of_found None = None
meaning_of_found (Some b) = Some b.meaning

abbrev pub meaning_named : Environment → List ℕ → Option Meaning
meaning_named env text = meaning_of_found (value_named env text)

-- a name that stands for nothing, or for something else than is wanted
abbrev pub wrong_meaning : Machine → Wanted → Span → Option Meaning → List Broken
wrong_meaning m wanted place None = told NotThere place ∷ []
wrong_meaning m wanted place (Some meaning) = unfit m wanted place meaning

abbrev pub wrong_value_name : Environment → Wanted → Name → List Broken
wrong_value_name env wanted n = wrong_meaning env.machine wanted n.span (meaning_named env n.text)

-- Names of types.

-- a type that isn't known in bodies
abbrev pub known_in_bodies : Option KnownType → Option KnownType
known_in_bodies t = cond (is_built_in AbstractEntry t) None t

abbrev pub type_unless : Environment → List ℕ → Option Bound → Option KnownType
type_unless env text (Some b) = None
type_unless env text None = known_in_bodies (type_in env.trees (within env.machine) text)

abbrev pub type_named : Environment → List ℕ → Option KnownType
type_named env text = type_unless env text (value_named env text)

-- where the name is a value's, and the type of the name
abbrev pub no_type : Span → Option Bound → Option KnownType → List Broken
no_type place (Some b) t = told WrongType place ∷ []
no_type place None None = told NotThere place ∷ []
no_type place None (Some t) = []

-- the name is no type's
abbrev pub wrong_type_name : Environment → List ℕ → Span → List Broken
wrong_type_name env text place = no_type place (value_named env text) (type_named env text)

-- Forms that are allowed in some bodies alone.

abbrev pub is_allowed : BodySort → Allowed → Bool
is_allowed body anywhere = true
is_allowed of_port in_ports = true
is_allowed of_action in_actions = true
is_allowed _ _ = false
