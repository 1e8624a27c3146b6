-- What an expression or a name stands for in a body, what a place wants to stand there, and whether the two agree. Values are
-- numbers, truth values, addresses, members of enumerations, machines, sets of machines, blocks of data, and references to
-- lines of the machine's own tables, which have the type of the line's structure. Messages, tables and ports are no values. All
-- types of numbers are one. `OOD` agrees with each type of references.
use Rattle.std.specs.Prelude.{◌||◌, Bool, true, false, cond, Option, None, Some, List, [], ◌∷◌, ◌++◌}
use Rattle.std.specs.List.{list_any}
use Rattle.slicc_ast.specs.declared.tree.span.Span.{Span}
use Rattle.slicc_ast.specs.declared.tree.name.Name.{Name}
use Rattle.slicc_ast.specs.declared.tree.machine.Machine.{Machine}
use Rattle.slicc_ast.specs.declared.tree.declaration.Structure.{Structure}
use Rattle.slicc_plan.specs.declared.broken.Broken.{Broken}
use Rattle.slicc_plan.specs.declared.broken.Rule.{Rule}
use Rattle.slicc_plan.specs.declared.broken.Rule.TheVariants.{WrongType}
use Rattle.slicc_plan.specs.declared.built_in.BuiltInType.{BuiltInType}
use Rattle.slicc_plan.specs.declared.built_in.BuiltInType.TheVariants.{Address, NetDest, Void}
use Rattle.slicc_plan.specs.Buffers.{is_same_known, listed}
use Rattle.slicc_plan.specs.BuiltIn.{Nature, number, boolean, address, enumeration, other_value, structure, table as table_nature, nothing as nothing_nature, is_table_nature, nature_of}
use Rattle.slicc_plan.specs.Declarations.{within}
use Rattle.slicc_plan.specs.FieldTypes.{may_be_field}
use Rattle.slicc_plan.specs.Machines.{directory_structure, entry_structure, tbe_structure}
use Rattle.slicc_plan.specs.Types.{KnownType, built_in, enumerated, structured, is_built_in, nature_in}

pub data Meaning : Type 0 where
  value : KnownType → Meaning
  -- `OOD`, the reference to nothing
  no_line : Meaning
  -- a reference to a line of a table whose structure the machine doesn't have
  bare_line : Meaning
  -- `new` and a structure's name
  new_line : Name → Meaning
  -- a message that is looked at, and one that is being made
  incoming : KnownType → Meaning
  outgoing : KnownType → Meaning
  table : BuiltInType → Meaning
  -- ports with the type of their messages, where that is known
  in_port : Option KnownType → Meaning
  out_port : Option KnownType → Meaning
  -- what a call gives that answers nothing
  nothing : Meaning
  -- of what is told to be wrong already, there is no further complaint
  unknown : Meaning

-- The types of values.

-- the structures of the lines of a machine's tables
abbrev pub line_structures : Machine → List Structure
line_structures m =
    listed (entry_structure m) ++ listed (directory_structure m) ++ listed (tbe_structure m)

abbrev pub is_line_of : Machine → List Structure → KnownType → Bool
is_line_of m structures t = list_any (λ (s : Structure). is_same_known (structured (within m) s) t) structures

-- references to lines of the machine's tables may be of this type
abbrev pub is_line : Machine → KnownType → Bool
is_line m t = is_line_of m (line_structures m) t

abbrev pub is_value : Machine → KnownType → Bool
is_value m (built_in b) = may_be_field (nature_of b)
is_value m (enumerated scope text members) = true
is_value m (structured scope s) = is_line m (structured scope s)

abbrev pub is_structure_nature : Nature → Bool
is_structure_nature number = false
is_structure_nature boolean = false
is_structure_nature address = false
is_structure_nature enumeration = false
is_structure_nature other_value = false
is_structure_nature structure = true
is_structure_nature table_nature = false
is_structure_nature nothing_nature = false

-- messages may be of this type
abbrev pub is_message : KnownType → Bool
is_message t = is_structure_nature (nature_in t)

-- the types of parameters and objects
abbrev pub is_object_type : Machine → KnownType → Bool
is_object_type m t = is_table_nature (nature_in t) || is_value m t

-- the types of what functions answer
abbrev pub is_answer_type : Machine → KnownType → Bool
is_answer_type m t = is_built_in Void (Some t) || is_value m t

-- Meanings by declared types, where these are known.

-- of locals, formals and fields
abbrev pub value_of_type : Machine → Option KnownType → Meaning
value_of_type m None = unknown
value_of_type m (Some t) = cond (is_value m t) (value t) unknown

-- of parameters and objects
abbrev pub object_of_type : Machine → Option KnownType → Meaning
object_of_type m (Some (built_in b)) =
    cond (is_table_nature (nature_of b)) (table b) (value_of_type m (Some (built_in b)))
object_of_type m t = value_of_type m t

-- of what functions answer
abbrev pub answer_of_type : Machine → Option KnownType → Meaning
answer_of_type m t = cond (is_built_in Void t) nothing (value_of_type m t)

abbrev pub message_type : Option KnownType → Option KnownType
message_type None = None
message_type (Some t) = cond (is_message t) (Some t) None

abbrev pub incoming_of_type : Option KnownType → Meaning
incoming_of_type None = unknown
incoming_of_type (Some t) = incoming t

abbrev pub outgoing_of_type : Option KnownType → Meaning
outgoing_of_type None = unknown
outgoing_of_type (Some t) = outgoing t

-- a reference to a line of this structure, where the machine has it
abbrev pub line_of_structure : Machine → Option Structure → Meaning
line_of_structure m None = bare_line
line_of_structure m (Some s) = value (structured (within m) s)

-- What is wanted.

pub data Wanted : Type 0 where
  anything : Wanted
  -- what may be a statement alone
  any_value : Wanted
  -- a value of one of these types
  one_of : List KnownType → Wanted
  any_line : Wanted
  only_no_line : Wanted
  -- what `==` compares
  comparable : Wanted
  -- `new` and the name of this type
  new_line_of : Option KnownType → Wanted
  -- an address, or a reference to a line of this type, of which `OOD` is one also where there is no such type
  address_or_line_of : Option KnownType → Wanted
  -- a table of this type
  table_of : BuiltInType → Wanted
  any_in_port : Wanted
  any_out_port : Wanted

abbrev pub of_built_in : BuiltInType → Wanted
of_built_in b = one_of (built_in b ∷ [])

-- what has to be there beside this, or be assigned to it
abbrev pub like_it : Meaning → Wanted
like_it (value t) = one_of (t ∷ [])
like_it _ = anything

abbrev pub is_number : Nature → Bool
is_number number = true
is_number boolean = false
is_number address = false
is_number enumeration = false
is_number other_value = false
is_number structure = false
is_number table_nature = false
is_number nothing_nature = false

-- values of these types may stand for each other
abbrev pub agree : KnownType → KnownType → Bool
agree t u = cond (is_number (nature_in t)) (is_number (nature_in u)) (is_same_known t u)

abbrev pub is_comparable : Machine → KnownType → Bool
is_comparable m t = cond (is_built_in NetDest (Some t)) false (cond (is_line m t) false true)

abbrev pub value_fits : Machine → Wanted → KnownType → Bool
value_fits m anything t = true
value_fits m any_value t = true
value_fits m (one_of types) t = list_any (λ u. agree u t) types
value_fits m (address_or_line_of line) t = list_any (λ u. agree u t) (built_in Address ∷ listed line)
value_fits m any_line t = is_line m t
value_fits m comparable t = is_comparable m t
value_fits m _ t = false

abbrev pub no_line_fits : Machine → Wanted → Bool
no_line_fits m anything = true
no_line_fits m any_value = true
no_line_fits m (one_of types) = list_any (is_line m) types
no_line_fits m any_line = true
no_line_fits m only_no_line = true
no_line_fits m (address_or_line_of line) = true
no_line_fits m _ = false

abbrev pub bare_line_fits : Wanted → Bool
bare_line_fits anything = true
bare_line_fits any_value = true
bare_line_fits any_line = true
bare_line_fits _ = false

abbrev pub nothing_fits : Wanted → Bool
nothing_fits anything = true
nothing_fits any_value = true
nothing_fits _ = false

abbrev pub message_fits : Wanted → Bool
message_fits anything = true
message_fits _ = false

abbrev pub table_fits : Wanted → BuiltInType → Bool
table_fits anything b = true
table_fits (table_of c) b = is_built_in c (Some (built_in b))
table_fits _ b = false

abbrev pub in_port_fits : Wanted → Bool
in_port_fits anything = true
in_port_fits any_in_port = true
in_port_fits _ = false

abbrev pub out_port_fits : Wanted → Bool
out_port_fits anything = true
out_port_fits any_out_port = true
out_port_fits _ = false

-- this may stand where that is wanted
abbrev pub fits : Machine → Wanted → Meaning → Bool
fits m wanted (value t) = value_fits m wanted t
fits m wanted no_line = no_line_fits m wanted
fits m wanted bare_line = bare_line_fits wanted
-- where it isn't wanted, `new` breaks another rule, and is told by that alone
fits m wanted (new_line made) = true
fits m wanted (incoming t) = message_fits wanted
fits m wanted (outgoing t) = message_fits wanted
fits m wanted (table b) = table_fits wanted b
fits m wanted (in_port t) = in_port_fits wanted
fits m wanted (out_port t) = out_port_fits wanted
fits m wanted nothing = nothing_fits wanted
fits m wanted unknown = true

abbrev pub told : Rule → Span → Broken
told rule place = record { rule = rule; machine = 0; place = place; other = None }

-- told where that doesn't hold
abbrev pub unless : Bool → Rule → Span → List Broken
unless is_right rule place = cond is_right [] (told rule place ∷ [])

-- what is at this place isn't what is wanted there
abbrev pub unfit : Machine → Wanted → Span → Meaning → List Broken
unfit m wanted place meaning = unless (fits m wanted meaning) WrongType place
