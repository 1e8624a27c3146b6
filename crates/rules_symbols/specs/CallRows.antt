-- The built-in calls of the rules as operations of action code. Each call has the number that the meaning of bodies gives it, by what
-- it is called on, its name and how many arguments it is written with; and the operation of that number is on what the call is on,
-- takes the kinds of its arguments and gives the kind of its answer. A receiver that is a value is the first argument, and what a call
-- makes of a value that it changes is what the operation gives. The `new` of an `allocate` is no argument of an operation.
use Rattle.std.specs.Prelude.{ℕ, ◌+◌, ◌++◌, Bool, cond, Option, Some, List, [], ◌∷◌, flat_map, length, take, codes}
use Rattle.std.specs.List.{list_any}
use Rattle.std.specs.Str.{bytes_eq}
use Rattle.ruby_value.specs.declared.kind.Kind.TheVariants as kind
use Rattle.ruby_symbols.specs.declared.machine.TableSort.{TableSort}
use Rattle.ruby_symbols.specs.declared.machine.TableSort.TheVariants as symbol_sort
use Rattle.action_code.specs.declared.operand.Operand.{Operand}
use Rattle.action_code.specs.declared.operand.Operand.TheVariants as operand
use Rattle.action_code.specs.declared.operations.Answer.{Answer as Given}
use Rattle.action_code.specs.declared.operations.Answer.TheVariants as given
use Rattle.action_code.specs.declared.operations.Arguments.{Arguments}
use Rattle.action_code.specs.declared.operations.Arguments.TheVariants.{Zero, One, Two, Three, Four}
use Rattle.action_code.specs.declared.operations.Operation.{Operation}
use Rattle.action_code.specs.declared.operations.Receiver.{Receiver as ServedOn}
use Rattle.action_code.specs.declared.operations.Receiver.TheVariants as served
use Rattle.action_code.specs.declared.program.TableSort.TheVariants as code_sort
use Rattle.body_meaning.specs.CallNumbers.{block_call, entry_call, index_call, plain_call, port_call, sequencer_call, set_call, table_call}
use Rattle.slicc_plan.specs.BuiltInCalls.{Receiver, in_port, cache, directory, tbe_table, net_dest, data_block, sequencer, entry, nothing, Argument, value_of, address_or_line, Answer, no_value, answered, line, Change, of_receiver, of_block, Call}
use Rattle.slicc_plan.specs.TypeNumbers.{built_in_kind, kind_or_bool}

-- Numbers.

abbrev pub table_number : TableSort → List ℕ → Option ℕ
table_number s text = cond (bytes_eq text (codes "[]")) (Some (index_call s)) (table_call s text)

-- of a call on this, of this name and with so many arguments
abbrev pub call_number : Receiver → List ℕ → ℕ → Option ℕ
call_number in_port text count = port_call text count
call_number cache text count = table_number symbol_sort.Cache text
call_number directory text count = table_number symbol_sort.Directory text
call_number tbe_table text count = table_number (symbol_sort.Tbe 0) text
call_number net_dest text count = set_call text
call_number data_block text count = block_call text
call_number sequencer text count = sequencer_call text count
call_number entry text count = entry_call text
call_number nothing text count = plain_call text

-- Operations.

abbrev pub served_on : Receiver → ServedOn
served_on in_port = served.Port
served_on cache = served.Table code_sort.Cache
served_on directory = served.Table code_sort.Directory
served_on tbe_table = served.Table code_sort.Tbe
served_on _ = served.Nothing

-- the receiver, where it is a value
abbrev pub receiver_operand : Receiver → List Operand
receiver_operand net_dest = operand.Value kind.Dest ∷ []
receiver_operand data_block = operand.Value kind.Block ∷ []
receiver_operand entry = operand.Line ∷ []
receiver_operand _ = []

-- an argument, where it is a value. Only calls that no operation serves have the others
abbrev pub argument_operand : Argument → List Operand
argument_operand (value_of b) = operand.Value (kind_or_bool (built_in_kind b)) ∷ []
argument_operand address_or_line = operand.AddressOrLine ∷ []
argument_operand _ = []

-- at most four
abbrev pub arguments_by : List Operand → Arguments
arguments_by [] = Zero
arguments_by (a ∷ []) = One a
arguments_by (a ∷ b ∷ []) = Two a b
arguments_by (a ∷ b ∷ c ∷ []) = Three a b c
arguments_by (a ∷ b ∷ c ∷ d ∷ others) = Four a b c d

-- of a call that changes its receiver, what becomes of that
abbrev pub changed_receiver : Receiver → Given
changed_receiver net_dest = given.Value kind.Dest
changed_receiver data_block = given.Value kind.Block
changed_receiver _ = given.Nothing

abbrev pub given_without : Receiver → Change → Given
given_without on of_receiver = changed_receiver on
given_without on of_block = given.Value kind.Block
given_without on _ = given.Nothing

abbrev pub given_by : Receiver → Change → Answer → Given
given_by on c no_value = given_without on c
given_by on c (answered b) = given.Value (kind_or_bool (built_in_kind b))
given_by on c line = given.Line

-- of a call that is written with so many of the arguments that may follow
abbrev pub operation_of : Call → ℕ → Operation
operation_of c more =
    record {
      on = served_on c.receiver;
      arguments = arguments_by (receiver_operand c.receiver ++ flat_map argument_operand (c.always ++ take more c.perhaps));
      answer = given_by c.receiver c.change c.answer;
    }

abbrev pub number_of_call : Call → ℕ → Option ℕ
number_of_call c more = call_number c.receiver c.name (length c.always + more)

-- calls whose work is done by other instructions
abbrev pub is_other_work : Call → Bool
is_other_work c =
    list_any (bytes_eq c.name)
    (codes "trigger" ∷ codes "set_cache_entry" ∷ codes "unset_cache_entry" ∷ codes "set_tbe" ∷ codes "unset_tbe" ∷ [])
