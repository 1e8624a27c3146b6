-- What the calls of a machine's functions do. A function has its formals, bound to the arguments, and nothing else of its own, and
-- answers what it returns. Functions of an accepted protocol don't call each other in a circle, so that they are inside of one
-- another at most as deep as there are functions; beyond the depth that is given, a call is the fault `reference`.
use Rattle.std.specs.Prelude.{ℕ, zero, suc, Option, None, Some, List, [], ◌∷◌, length, slice_get}
use Rattle.slicc_ast.specs.declared.tree.declaration.Function.TheVariants.{Plain}
use Rattle.slicc_ast.specs.declared.tree.machine.Decl.{Decl}
use Rattle.slicc_ast.specs.declared.tree.machine.Decl.TheVariants.{Function}
use Rattle.slicc_ast.specs.declared.tree.machine.Machine.{Machine}
use Rattle.slicc_ast.specs.declared.tree.statement.Block.{Block}
use Rattle.ruby_value.specs.declared.value.Value.{Value}
use Rattle.ruby_symbols.specs.declared.machine.FormalSymbol.{FormalSymbol}
use Rattle.ruby_symbols.specs.declared.machine.FunctionSymbol.{FunctionSymbol}
use Rattle.acts.specs.declared.body_fault.BodyFault.TheVariants as own
use Rattle.acts.specs.Prelude.{Acting, ends, stops, ◌>>=◌}
use Rattle.body_meaning.specs.declared.frame.Bound.{Bound}
use Rattle.body_meaning.specs.declared.frame.Flow.{Flow}
use Rattle.body_meaning.specs.declared.frame.Flow.TheVariants.{WentOn, Returned, Triggered}
use Rattle.body_meaning.specs.declared.frame.Frame.{Frame}
use Rattle.body_meaning.specs.Reading.{Reading}
use Rattle.body_meaning.specs.declared.thing.Thing.{Thing}
use Rattle.body_meaning.specs.declared.thing.Thing.TheVariants as thing
use Rattle.body_meaning.specs.Calls.{Calls}
use Rattle.body_meaning.specs.Frames.{Ended}
use Rattle.body_meaning.specs.Statements.{all_done}

abbrev pub body_in : Option Decl → Option Block
body_in (Some (Function (Plain kind called formals attributes body span))) = body
body_in _ = None

-- the body of a function, among the declarations of its machine
abbrev pub body_of : Machine → FunctionSymbol → Option Block
body_of tree f = body_in (slice_get tree.declarations f.declaration)

abbrev pub with_formal : Option (List ℕ) → Value → List Bound → List Bound
with_formal None v names = names
with_formal (Some name) v names = record { name = name; thing = thing.Value v } ∷ names

abbrev pub bound_formals : List FormalSymbol → List Value → List Bound
bound_formals [] arguments = []
bound_formals (f ∷ fs) [] = []
bound_formals (f ∷ fs) (v ∷ vs) = with_formal f.name v (bound_formals fs vs)

abbrev pub frame_of : FunctionSymbol → List Value → Frame
frame_of f arguments = record { names = bound_formals f.formals arguments; about = None }

abbrev pub answer_of : Flow → Thing
answer_of WentOn = thing.Nothing
answer_of (Returned t) = t
answer_of (Triggered t) = thing.Trigger t

abbrev pub function_run : Reading → Calls → Frame → Option Block → Acting Thing
function_run s calls frame None = stops own.Reference
function_run s calls frame (Some b) = all_done s calls b.statements frame >>= (λ (e : Ended). ends (answer_of e.flow))

abbrev pub function_called : Reading → Calls → List Value → Option FunctionSymbol → Acting Thing
function_called s calls arguments None = stops own.Reference
function_called s calls arguments (Some f) = function_run s calls (frame_of f arguments) (body_of s.tree f)

-- calls that may be this many inside of one another
unfoldable pub calls_within : Reading → ℕ → Calls
calls_within s zero k arguments = stops own.Reference
calls_within s (suc depth) k arguments = function_called s (calls_within s depth) arguments (slice_get s.machine.functions k)

-- the calls of a machine's functions
abbrev pub calls_of : Reading → Calls
calls_of s = calls_within s (length s.machine.functions)
