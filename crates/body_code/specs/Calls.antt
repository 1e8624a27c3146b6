-- Calls in code, once the code of their arguments is there: what is called, and what it leaves. A name that is called is that of a function
-- of the machine, if it has one, and else of a built-in call, as an operation; or it is one from states to permissions, for which each
-- machine has a body for each machine of the protocol. Calls on values go by the kind of the value. What a call that changes its
-- receiver gives is on the stack.
use Rattle.std.specs.Prelude.{ℕ, ◌+◌, ◌==◌, cond, Option, None, Some, List, [], ◌∷◌, map, option_and_then, position, slice_get, unwrap_or}
use Rattle.std.specs.Option.{option_map}
use Rattle.ruby_value.specs.declared.kind.Kind.{Kind}
use Rattle.ruby_value.specs.declared.kind.Kind.TheVariants as kind
use Rattle.ruby_symbols.specs.declared.machine.FormalSymbol.{FormalSymbol}
use Rattle.ruby_symbols.specs.declared.machine.FunctionSymbol.{FunctionSymbol}
use Rattle.ruby_symbols.specs.declared.machine.MachineSymbols.{MachineSymbols}
use Rattle.ruby_symbols.specs.declared.machine.TableSymbol.{TableSymbol}
use Rattle.ruby_symbols.specs.Prelude.{function_named}
use Rattle.action_code.specs.declared.instr.Instr.TheVariants as instr
use Rattle.action_code.specs.declared.operations.Answer.{Answer}
use Rattle.action_code.specs.declared.operations.Answer.TheVariants as answer
use Rattle.action_code.specs.declared.operations.Operation.{Operation}
use Rattle.action_code.specs.Prelude.{bare, operations}
use Rattle.body_meaning.specs.declared.thing.Numbered.{Numbered}
use Rattle.body_meaning.specs.Prelude.{Reading, block_call, entry_call, index_call, is_permission_call, numbered, on_table, plain_call, port_call, sequencer_call, set_call}
use Rattle.body_code.specs.declared.left.Left.{Left}
use Rattle.body_code.specs.declared.left.Left.TheVariants as left
use Rattle.body_code.specs.declared.numbers.BodyNumbers.{BodyNumbers}
use Rattle.body_code.specs.Kinds.{kind_in, lines_kind}
use Rattle.body_code.specs.Pieces.{Piece, after, or_none}
use Rattle.body_code.specs.Segments.{Segment, just}

abbrev pub left_of : Option Kind → Left
left_of None = left.Nothing
left_of (Some k) = left.Value k

-- Operations.

abbrev pub lines_left : MachineSymbols → Option TableSymbol → Left
lines_left m None = left.Nothing
lines_left m (Some t) = left.Value (lines_kind m t)

abbrev pub answer_left : MachineSymbols → ℕ → Answer → Left
answer_left m on answer.Nothing = left.Nothing
answer_left m on (answer.Value k) = left.Value (bare k)
answer_left m on answer.Line = lines_left m (slice_get m.tables on)

abbrev pub operation_left : Reading → ℕ → Option Operation → Left
operation_left s on None = left.Nothing
operation_left s on (Some o) = answer_left s.machine on o.answer

-- the operation of the first number on the table or buffer of the second
abbrev pub operated : Reading → (number on : ℕ) → Piece
operated s number on =
    record { left = operation_left s on (slice_get operations number); code = just (instr.Op number on ∷ []) }

-- Without a receiver.

-- the body of a function, and that from the states of a machine to their permissions
abbrev pub function_body_number : BodyNumbers → ℕ → ℕ
function_body_number n k = n.first + unwrap_or (position (λ f. f == k) n.order) 0

abbrev pub permission_body_number : BodyNumbers → ℕ → ℕ
permission_body_number n machine = n.permissions + machine

abbrev pub function_at : Reading → ℕ → Option FunctionSymbol
function_at s k = slice_get s.machine.functions k

abbrev pub result_of : Reading → Option FunctionSymbol → Option Kind
result_of s f = option_and_then (λ (found : FunctionSymbol). option_map (kind_in s) found.result) f

abbrev pub formals_in : Reading → Option FunctionSymbol → List Kind
formals_in s None = []
formals_in s (Some f) = map (λ (formal : FormalSymbol). kind_in s formal.kind) f.formals

-- the kinds that the formals of a function of the machine have, by its name; of a built-in call none is told
abbrev pub formals_of : Reading → List ℕ → List Kind
formals_of s text = formals_in s (option_and_then (function_at s) (function_named s.machine text))

abbrev pub function_called : Reading → BodyNumbers → ℕ → Piece
function_called s n k =
    record { left = left_of (result_of s (function_at s k)); code = just (instr.Call (function_body_number n k) ∷ []) }

abbrev pub permission_called : BodyNumbers → ℕ → Piece
permission_called n machine =
    record { left = left.Value (kind.Enum 1 0); code = just (instr.Call (permission_body_number n machine) ∷ []) }

-- the number of the first machine whose call from states to permissions has this name, of these, which are numbered from here on
abbrev pub permission_machine : List ℕ → ℕ → List MachineSymbols → Option ℕ
permission_machine text machine [] = None
permission_machine text machine (m ∷ ms) =
    cond (is_permission_call text m) (Some machine) (permission_machine text (machine + 1) ms)

abbrev pub plain_or : Reading → BodyNumbers → List ℕ → Option ℕ → Piece
plain_or s n text (Some number) = operated s number 0
plain_or s n text None =
    or_none (option_map (permission_called n) (permission_machine text 0 s.symbols.machines))

abbrev pub function_or : Reading → BodyNumbers → List ℕ → Option ℕ → Piece
function_or s n text (Some k) = function_called s n k
function_or s n text None = plain_or s n text (plain_call text)

abbrev pub named_call : Reading → BodyNumbers → List ℕ → Piece
named_call s n text = function_or s n text (function_named s.machine text)

-- With a receiver.

abbrev pub value_call : Kind → List ℕ → Option ℕ
value_call kind.Dest text = set_call text
value_call kind.Block text = block_call text
value_call (kind.Entry structure) text = entry_call text
value_call (kind.Tbe structure) text = entry_call text
value_call _ text = None

abbrev pub called_on : Reading → Left → List ℕ → ℕ → Option Numbered
called_on s (left.Port buffer) text count = numbered buffer (port_call text count)
called_on s (left.Table table) text count = on_table text table (slice_get s.machine.tables table)
called_on s left.Sequencer text count = numbered 0 (sequencer_call text count)
called_on s (left.Value k) text count = numbered 0 (value_call k text)
called_on s _ text count = None

abbrev pub numbered_call : Reading → Option Numbered → Piece
numbered_call s c = or_none (option_map (λ (found : Numbered). operated s found.number found.on) c)

-- with this many arguments, which have this code
abbrev pub method_call : Reading → Left → List ℕ → ℕ → Segment → Piece
method_call s receiver text count arguments = after arguments (numbered_call s (called_on s receiver text count))

abbrev pub indexed_on : Reading → Left → Option Numbered
indexed_on s (left.Table table) =
    option_map (λ (t : TableSymbol). record { number = index_call t.sort; on = table }) (slice_get s.machine.tables table)
indexed_on s _ = None

abbrev pub index : Reading → Left → Piece
index s receiver = numbered_call s (indexed_on s receiver)
