-- What operands are accepted, and what an operation takes, gives and serves. Which operations there are, the table `OPERATIONS` says.
use Rattle.std.specs.Prelude.{ℕ, ◌==◌, Bool, true, false, ◌&&◌, ◌||◌, Option, None, Some, List, [], ◌∷◌, slice_get, if◌then◌else◌}
use Rattle.ruby_value.specs.declared.kind.Kind.{Kind}
use Rattle.ruby_value.specs.declared.kind.Kind.TheVariants as kind
use Rattle.ruby_value.specs.Prelude.{equal_kinds, is_reference}
use Rattle.action_code.specs.declared.operand.Operand.{Operand}
use Rattle.action_code.specs.declared.operand.Operand.TheVariants as operand
use Rattle.action_code.specs.declared.operations.Answer.{Answer}
use Rattle.action_code.specs.declared.operations.Answer.TheVariants as answer
use Rattle.action_code.specs.declared.operations.Arguments.{Arguments}
use Rattle.action_code.specs.declared.operations.Arguments.TheVariants.{Zero, One, Two, Three, Four}
use Rattle.action_code.specs.declared.operations.Operation.{Operation}
use Rattle.action_code.specs.declared.operations.Receiver.{Receiver}
use Rattle.action_code.specs.declared.operations.Receiver.TheVariants as receiver
use Rattle.action_code.specs.declared.operations.TheConstants.{OPERATIONS}
use Rattle.action_code.specs.declared.program.BufferDecl.{BufferDecl}
use Rattle.action_code.specs.declared.program.MachineDecl.{MachineDecl}
use Rattle.action_code.specs.declared.program.Place.{Place}
use Rattle.action_code.specs.declared.program.Place.TheVariants as place
use Rattle.action_code.specs.declared.program.TableDecl.{TableDecl}
use Rattle.action_code.specs.declared.program.TableSort.{TableSort}
use Rattle.action_code.specs.declared.program.TableSort.TheVariants as sort
use Rattle.action_code.specs.Tables.{buffer_at, has_map, is_reference_to, kind_of_table, same_sort, tables_of}

abbrev pub is_address : Kind → Bool
is_address kind.Addr = true
is_address _ = false

-- a reference to a line of the cache; where there is no cache, any reference
abbrev pub is_line_in : List TableDecl → Option TableDecl → Kind → Bool
is_line_in tables None k = is_reference k
is_line_in tables (Some t) k = if same_sort t.sort sort.Cache then equal_kinds (kind_of_table tables t) k else is_reference k

abbrev pub is_state : Option MachineDecl → Kind → Bool
is_state None k = true
is_state (Some m) k = equal_kinds (kind.Enum m.states 0) k

-- whether a value of this kind serves as the operand, of an instruction of that machine on the table of that number
abbrev pub accepts : Option MachineDecl → ℕ → Operand → Kind → Bool
accepts m on (operand.Value wanted) k = equal_kinds wanted k
accepts m on operand.Anything k = true
accepts m on operand.Reference k = is_reference k
accepts m on operand.Entry k = is_reference_to (tables_of m) sort.Cache k
accepts m on operand.Line k = is_reference_to (tables_of m) sort.Cache k || is_reference_to (tables_of m) sort.Directory k
accepts m on operand.Tbe k = is_reference_to (tables_of m) sort.Tbe k
accepts m on operand.AddressOrLine k = is_address k || is_line_in (tables_of m) (slice_get (tables_of m) on) k
accepts m on operand.State k = is_state m k

-- from the top of the stack down
abbrev pub operands_of : Arguments → List Operand
operands_of Zero = []
operands_of (One a) = a ∷ []
operands_of (Two a b) = b ∷ a ∷ []
operands_of (Three a b c) = c ∷ b ∷ a ∷ []
operands_of (Four a b c d) = d ∷ c ∷ b ∷ a ∷ []

abbrev pub line_answered : List TableDecl → Option TableDecl → Option Kind
line_answered tables None = None
line_answered tables (Some t) = Some (kind_of_table tables t)

-- what an operation on what has this number gives
abbrev pub answered : Option MachineDecl → ℕ → Answer → Option Kind
answered m on answer.Nothing = None
answered m on (answer.Value k) = Some k
answered m on answer.Line = line_answered (tables_of m) (slice_get (tables_of m) on)

-- messages are taken from a buffer of the controller's own and from one from a network, and sent to one of its own and to one to a network
abbrev pub takes_from : Place → Bool
takes_from place.Local = true
takes_from place.From = true
takes_from place.To = false

abbrev pub sends_to : Place → Bool
sends_to place.Local = true
sends_to place.To = true
sends_to place.From = false

abbrev pub is_port : Option BufferDecl → Bool
is_port None = false
is_port (Some b) = takes_from b.place

abbrev pub is_table : TableSort → Option TableDecl → Bool
is_table s None = false
is_table s (Some t) = same_sort t.sort s

-- the operations by their numbers
unfoldable pub operations : List Operation
operations = OPERATIONS

-- whether an operation on such a receiver is served on what has this number
abbrev pub serves : Option MachineDecl → ℕ → Receiver → Bool
serves m on receiver.Port = is_port (buffer_at m on)
serves m on (receiver.Table s) = is_table s (slice_get (tables_of m) on)
serves m on receiver.Nothing = on == 0
serves m on receiver.States = has_map m && on == 0
serves m on receiver.Unserved = false
