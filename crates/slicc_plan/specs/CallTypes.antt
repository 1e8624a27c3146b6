-- What a call stands for in a body, and what is broken in it, where its parts are known: what it is called on and its arguments.
-- A call's name may not be there, or be a value's; it may have too few or too many arguments; an argument may not be what is
-- wanted; a call may not be allowed in the body; and what it changes may not be writable. Locals, and fields of lines and of a
-- message that is being made, are writable. An index of a table is a call of its own; what is indexed has to be a table.
-- Apart from names and arguments all is told at the first byte of the call, which is that of what it is called on.
use Rattle.std.specs.Prelude.{ℕ, ◌+◌, ◌==◌, ◌&&◌, ◌||◌, ◌++◌, Bool, true, false, nat_le, cond, Option, None, Some, List, [], ◌∷◌, find, flat_map, map, length, option_and_then, codes}
use Rattle.std.specs.Option.{option_map, option_or}
use Rattle.std.specs.List.{slice_get}
use Rattle.std.specs.Str.{bytes_eq}
use Rattle.slicc_ast.specs.declared.tree.span.Span.{Span}
use Rattle.slicc_ast.specs.declared.tree.name.Name.{Name}
use Rattle.slicc_ast.specs.declared.tree.item.Tree.{Tree}
use Rattle.slicc_ast.specs.declared.tree.machine.Machine.{Machine}
use Rattle.slicc_ast.specs.declared.tree.declaration.Formal.{Formal}
use Rattle.slicc_ast.specs.declared.tree.declaration.Function.TheVariants.{Plain, Skipped}
use Rattle.slicc_ast.specs.declared.tree.declaration.Structure.{Structure}
use Rattle.slicc_plan.specs.declared.broken.Broken.{Broken}
use Rattle.slicc_plan.specs.declared.broken.Rule.TheVariants.{NotThere, NotAllowedHere, NotWritable, WrongCount, WrongType}
use Rattle.slicc_plan.specs.declared.built_in.BuiltInType.{BuiltInType}
use Rattle.slicc_plan.specs.declared.built_in.BuiltInType.TheVariants.{NetDest, DataBlock, Cache, Directory, TbeTable, Sequencer}
use Rattle.slicc_plan.specs.Buffers.{listed}
use Rattle.slicc_plan.specs.BuiltInCalls.{Receiver, in_port as port_receiver, cache, directory, tbe_table, net_dest, data_block, sequencer, entry, nothing as no_receiver, Argument, value_of, new_line as new_line_argument, address_or_line, cache_line, tbe_line, own_cache_line, own_tbe_line, event, state_of, Answer, no_value, answered, line, Change, no_change, of_receiver, of_block, of_lines, Call, calls, permission_call, permission_reading}
use Rattle.slicc_plan.specs.Declarations.{Declaration, function, within, first_named, machine_declarations, machines_of}
use Rattle.slicc_plan.specs.Environment.{Bound, Environment, is_allowed, type_named, value_named, wrong_type_name}
use Rattle.slicc_plan.specs.Limits.{is_events, is_states}
use Rattle.slicc_plan.specs.Machines.{directory_structure, entry_structure, tbe_structure}
use Rattle.slicc_plan.specs.Meanings.{Meaning, value, new_line, table, in_port, nothing, unknown, Wanted, one_of, only_no_line, new_line_of, address_or_line_of, answer_of_type, is_line_of, like_it, line_of_structure, of_built_in, told, unfit, unless, value_of_type}
use Rattle.slicc_plan.specs.Types.{KnownType, built_in, structured, declared_type, type_in}

-- what of an expression may be written
pub data Written : Type 0 where
  a_local : Written
  a_field : Written
  no_place : Written

-- an expression: what it stands for, whether it may be written, and what is broken in it
pub record Typed : Type 0 where
  pub meaning : Meaning
  pub written : Written
  pub broken : List Broken

-- what is no place
abbrev pub plain : Meaning → List Broken → Typed
plain meaning broken = record { meaning = meaning; written = no_place; broken = broken }

-- an argument and its place
pub record Given : Type 0 where
  pub place : Span
  pub typed : Typed

abbrev pub broken_in : List Given → List Broken
broken_in given = flat_map (λ (g : Given). g.typed.broken) given

-- What arguments have to be.

abbrev pub type_of_line : Machine → Option Structure → Option KnownType
type_of_line m s = option_map (λ (u : Structure). structured (within m) u) s

abbrev pub line_wanted : Option KnownType → Wanted
line_wanted None = only_no_line
line_wanted (Some t) = one_of (t ∷ [])

-- the type that a declaration of a machine declares, where it is there
abbrev pub own_type : Machine → Option Declaration → List KnownType
own_type m None = []
own_type m (Some d) = listed (declared_type (within m) d)

abbrev pub states_type : Machine → List KnownType
states_type m = own_type m (find is_states (machine_declarations m))

abbrev pub events_type : Machine → List KnownType
events_type m = own_type m (find is_events (machine_declarations m))

-- the structure of the lines of a table
abbrev pub structure_on : Machine → Receiver → Option Structure
structure_on m cache = entry_structure m
structure_on m directory = directory_structure m
structure_on m tbe_table = tbe_structure m
structure_on m _ = None

-- what is wanted where an argument is, which some machines don't have
abbrev pub wanted_for : Machine → Receiver → Argument → List Wanted
wanted_for m on (value_of b) = of_built_in b ∷ []
wanted_for m on new_line_argument = new_line_of (type_of_line m (structure_on m on)) ∷ []
wanted_for m on address_or_line = address_or_line_of (type_of_line m (structure_on m on)) ∷ []
wanted_for m on cache_line = line_wanted (type_of_line m (entry_structure m)) ∷ []
wanted_for m on tbe_line = line_wanted (type_of_line m (tbe_structure m)) ∷ []
wanted_for m on own_cache_line = listed (option_map (λ (t : KnownType). one_of (t ∷ [])) (type_of_line m (entry_structure m)))
wanted_for m on own_tbe_line = listed (option_map (λ (t : KnownType). one_of (t ∷ [])) (type_of_line m (tbe_structure m)))
wanted_for m on event = one_of (events_type m) ∷ []
wanted_for m on (state_of n) = one_of (states_type n) ∷ []

abbrev pub wanted_by : Machine → Receiver → List Argument → List Wanted
wanted_by m on arguments = flat_map (wanted_for m on) arguments

-- What is broken in arguments.

-- a name after `new` that is no type's, or that of another type than the table's lines have
abbrev pub wrong_line_type : Environment → Option KnownType → Name → Option KnownType → List Broken
wrong_line_type env wanted made None = wrong_type_name env made.text made.span
wrong_line_type env None made (Some t) = told WrongType made.span ∷ []
wrong_line_type env (Some w) made (Some t) = unfit env.machine (one_of (w ∷ [])) made.span (value t)

abbrev pub wrong_new_line : Environment → Option KnownType → Given → Meaning → List Broken
wrong_new_line env wanted given (new_line made) = wrong_line_type env wanted made (type_named env made.text)
wrong_new_line env wanted given meaning =
    given.typed.broken ++ unfit env.machine (new_line_of wanted) given.place meaning

abbrev pub wrong_argument : Environment → Wanted → Given → List Broken
wrong_argument env (new_line_of t) given = wrong_new_line env t given given.typed.meaning
wrong_argument env wanted given = given.typed.broken ++ unfit env.machine wanted given.place given.typed.meaning

-- each argument against what is wanted where it is
abbrev pub wrong_arguments : Environment → List Wanted → List Given → List Broken
wrong_arguments env wanted [] = []
wrong_arguments env [] (g ∷ gs) = broken_in (g ∷ gs)
wrong_arguments env (w ∷ ws) (g ∷ gs) = wrong_argument env w g ++ wrong_arguments env ws gs

-- so many arguments there always are, and so many may follow
abbrev pub wrong_count : Span → ℕ → ℕ → List Given → List Broken
wrong_count at always perhaps given =
    unless (nat_le always (length given) && nat_le (length given) (always + perhaps)) WrongCount at

-- What is written.

-- it is told already that something is wrong
abbrev pub is_told : Meaning → Bool
is_told unknown = true
is_told (new_line made) = true
is_told _ = false

abbrev pub may_write : Written → Bool
may_write a_local = true
may_write a_field = true
may_write no_place = false

abbrev pub may_write_field : Written → Bool
may_write_field a_local = false
may_write_field a_field = true
may_write_field no_place = false

abbrev pub not_writable : Span → Typed → List Broken
not_writable at t = unless (is_told t.meaning || may_write t.written) NotWritable at

abbrev pub no_field : Span → Option Given → List Broken
no_field at None = []
no_field at (Some g) = unless (is_told g.typed.meaning || may_write_field g.typed.written) NotWritable at

-- what a call on this with these arguments changes may not be written
abbrev pub wrong_change : Change → Span → Typed → List Given → List Broken
wrong_change no_change at on given = []
wrong_change of_receiver at on given = not_writable at on
wrong_change of_block at on given = no_field at (slice_get given 1)
wrong_change of_lines at on given = []

-- Calls.

abbrev pub answer_of : Machine → Receiver → Answer → Meaning
answer_of m on no_value = nothing
answer_of m on (answered b) = value (built_in b)
answer_of m on line = line_of_structure m (structure_on m on)

abbrev pub built_in_call : Environment → Span → Typed → Call → List Given → Typed
built_in_call env at on c given =
    let always = wanted_by env.machine c.receiver c.always in
    let perhaps = wanted_by env.machine c.receiver c.perhaps in
    plain (answer_of env.machine c.receiver c.answer)
    (on.broken ++ unless (is_allowed env.body c.allowed) NotAllowedHere at
    ++ wrong_count at (length always) (length perhaps) given
    ++ wrong_arguments env (always ++ perhaps) given ++ wrong_change c.change at on given)

-- the types of a function's formals
abbrev pub formal_wanted : Environment → Formal → Wanted
formal_wanted env f = like_it (value_of_type env.machine (type_in env.trees (within env.machine) f.kind.text))

abbrev pub function_call : Environment → Span → List ℕ → List Formal → List Given → Typed
function_call env at kind formals given =
    plain (answer_of_type env.machine (type_in env.trees (within env.machine) kind))
    (wrong_count at (length formals) 0 given ++ wrong_arguments env (map (formal_wanted env) formals) given)

-- Calls without a receiver.

abbrev pub receiver_number : Receiver → ℕ
receiver_number port_receiver = 0
receiver_number cache = 1
receiver_number directory = 2
receiver_number tbe_table = 3
receiver_number net_dest = 4
receiver_number data_block = 5
receiver_number sequencer = 6
receiver_number entry = 7
receiver_number no_receiver = 8

abbrev pub is_call_on : Receiver → List ℕ → Call → Bool
is_call_on on text c = (receiver_number c.receiver == receiver_number on) && bytes_eq c.name text

abbrev pub call_on : Receiver → List ℕ → Option Call
call_on on text = find (is_call_on on text) calls

-- the call from the states of a machine to permissions, whose name this is
abbrev pub permission_named : List Tree → List ℕ → Option Call
permission_named trees text =
    option_map permission_reading (find (λ (m : Machine). bytes_eq (permission_call m.name.text) text) (machines_of trees))

abbrev pub plain_call : List Tree → List ℕ → Option Call
plain_call trees text = option_or (call_on no_receiver text) (permission_named trees text)

abbrev pub not_called : List Broken → Name → List Given → Typed
not_called broken called given = plain unknown (broken ++ told NotThere called.span ∷ broken_in given)

abbrev pub built_in_named : Environment → Span → Name → Option Call → List Given → Typed
built_in_named env at called None given = not_called [] called given
built_in_named env at called (Some c) given = built_in_call env at (plain nothing []) c given

-- where that is what the machine declares by the name; a prototype is of a built-in call
abbrev pub declared_call : Environment → Span → Name → Option Declaration → List Given → Typed
declared_call env at called None given = built_in_named env at called (plain_call env.trees called.text) given
declared_call env at called (Some (function (Plain kind name formals attributes (Some body) span))) given =
    function_call env at kind.text formals.items given
declared_call env at called (Some (function (Plain kind name formals attributes None span))) given =
    built_in_named env at called (plain_call env.trees called.text) given
declared_call env at called (Some (function (Skipped s))) given = not_called [] called given
declared_call env at called (Some _) given = not_called [] called given

abbrev pub call_unless : Environment → Span → Name → Option Bound → List Given → Typed
call_unless env at called (Some b) given = plain unknown (told WrongType called.span ∷ broken_in given)
call_unless env at called None given =
    declared_call env at called (first_named called.text (machine_declarations env.machine)) given

abbrev pub named_call : Environment → Span → Name → List Given → Typed
named_call env at called given = call_unless env at called (value_named env called.text) given

-- Calls on something.

abbrev pub table_receiver : BuiltInType → Option Receiver
table_receiver Cache = Some cache
table_receiver Directory = Some directory
table_receiver TbeTable = Some tbe_table
table_receiver Sequencer = Some sequencer
table_receiver _ = None

abbrev pub built_in_receiver : BuiltInType → Option Receiver
built_in_receiver NetDest = Some net_dest
built_in_receiver DataBlock = Some data_block
built_in_receiver _ = None

-- lines of caches and of directories
abbrev pub entry_structures : Machine → List Structure
entry_structures m = listed (entry_structure m) ++ listed (directory_structure m)

abbrev pub value_receiver : Machine → KnownType → Option Receiver
value_receiver m (built_in b) = built_in_receiver b
value_receiver m t = cond (is_line_of m (entry_structures m) t) (Some entry) None

abbrev pub receiver_of : Machine → Meaning → Option Receiver
receiver_of m (value t) = value_receiver m t
receiver_of m (table b) = table_receiver b
receiver_of m (in_port t) = Some port_receiver
receiver_of m _ = None

-- the call of this name on that
abbrev pub call_named : Machine → Meaning → List ℕ → Option Call
call_named m on text = option_and_then (λ receiver. call_on receiver text) (receiver_of m on)

abbrev pub found_method : Environment → Span → Typed → Name → Option Call → List Given → Typed
found_method env at on called None given = not_called on.broken called given
found_method env at on called (Some c) given = built_in_call env at on c given

abbrev pub method_call : Environment → Span → Typed → Name → List Given → Typed
method_call env at on called given =
    cond (is_told on.meaning) (plain unknown (on.broken ++ broken_in given))
    (found_method env at on called (call_named env.machine on.meaning called.text) given)

abbrev pub found_index : Environment → Span → Typed → Option Call → List Given → Typed
found_index env at on None given = plain unknown (on.broken ++ told NotThere at ∷ broken_in given)
found_index env at on (Some c) given = built_in_call env at on c given

abbrev pub index_call : Environment → Span → Typed → Given → Typed
index_call env at on key =
    cond (is_told on.meaning) (plain unknown (on.broken ++ key.typed.broken))
    (found_index env at on (call_named env.machine on.meaning (codes "[]")) (key ∷ []))
