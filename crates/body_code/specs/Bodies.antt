-- The bodies of a machine as code: those of its functions; those from the states of a machine to their permissions; those of its ports; and
-- what a transition does. That is one body for each of its actions and one that sets the state and the access permission, each of which
-- ends by a call of the next one: so an action may return at any place, and what it makes of the line's entry and TBE is handed on.
use Rattle.std.specs.Prelude.{ℕ, ◌+◌, Option, None, Some, List, [], ◌∷◌, ◌++◌, cond, codes, drop, is_some, length, map, slice_get}
use Rattle.slicc_ast.specs.declared.tree.statement.Block.{Block}
use Rattle.ruby_value.specs.declared.kind.Kind.{Kind}
use Rattle.ruby_value.specs.declared.kind.Kind.TheVariants as kind
use Rattle.ruby_value.specs.declared.value.Value.TheVariants as value
use Rattle.ruby_symbols.specs.declared.machine.FormalSymbol.{FormalSymbol}
use Rattle.ruby_symbols.specs.declared.machine.FunctionSymbol.{FunctionSymbol}
use Rattle.ruby_symbols.specs.declared.machine.MachineSymbols.{MachineSymbols}
use Rattle.ruby_symbols.specs.declared.machine.Next.{Next}
use Rattle.ruby_symbols.specs.declared.machine.Next.TheVariants.{To}
use Rattle.ruby_symbols.specs.declared.machine.PortSymbol.{PortSymbol}
use Rattle.ruby_symbols.specs.declared.states.StateArgument.{StateArgument}
use Rattle.ruby_symbols.specs.declared.states.StateArgument.TheVariants.{Tbe, Entry, Address, State}
use Rattle.ruby_symbols.specs.Prelude.{get_state_arguments, set_permission_arguments, set_state_arguments}
use Rattle.action_code.specs.declared.instr.Code.{Code}
use Rattle.action_code.specs.declared.instr.Instr.{Instr}
use Rattle.action_code.specs.declared.instr.Instr.TheVariants as instr
use Rattle.body_meaning.specs.Prelude.{Reading, body_of, body_of_action, port_block}
use Rattle.body_code.specs.declared.left.Home.TheVariants as home
use Rattle.body_code.specs.declared.left.NameAt.{NameAt}
use Rattle.body_code.specs.declared.numbers.BodyNumbers.{BodyNumbers}
use Rattle.body_code.specs.declared.own.Own.{Own}
use Rattle.body_code.specs.Calls.{formals_in, function_body_number, result_of}
use Rattle.body_code.specs.Kinds.{entry_kind, kind_in, state_kind, tbe_kind}
use Rattle.body_code.specs.Lines.{Line, closed, goes_on}
use Rattle.body_code.specs.Locals.{with_name}
use Rattle.body_code.specs.Segments.{Segment, guard, just, nothing, ◌⨾◌}
use Rattle.body_code.specs.Statements.{Ending, all_lines, entry_slot, tbe_slot}

abbrev pub own_with : List NameAt → List Kind → Own
own_with names arguments = record { names = names; locals = record { kinds = arguments; scratch = []; kept = [] } }

-- with these arguments, which are the first of its locals, and this result
abbrev pub body_with : Reading → List Kind → Option Kind → Line → Code
body_with s arguments result l =
    record {
      machine = s.number;
      arguments = arguments;
      locals = drop (length arguments) l.own.locals.kinds;
      result = result;
      instructions = l.code 0;
    }

-- of instructions that ask nothing of where they are, without other locals
abbrev pub plain_body : Reading → List Kind → Option Kind → List Instr → Code
plain_body s arguments result instructions =
    record { machine = s.number; arguments = arguments; locals = []; result = result; instructions = instructions }

-- a block that is a whole body; what isn't there, as it is in an accepted protocol, ends at once
abbrev pub whole : Reading → BodyNumbers → Ending → Option Block → Own → Line
whole s n ending None own = closed (goes_on nothing own) ending.without
whole s n ending (Some b) own = closed (all_lines s n ending b.statements own) ending.without

-- Functions.

abbrev pub with_formal : Option (List ℕ) → ℕ → Kind → List NameAt → List NameAt
with_formal None slot k names = names
with_formal (Some text) slot k names = with_name text (home.Local slot k) names

-- of formals whose first local is this
abbrev pub formal_names : Reading → ℕ → List FormalSymbol → List NameAt
formal_names s slot [] = []
formal_names s slot (f ∷ fs) = with_formal f.name slot (kind_in s f.kind) (formal_names s (slot + 1) fs)

abbrev pub function_code : Reading → BodyNumbers → FunctionSymbol → Code
function_code s n f =
    let arguments = formals_in s (Some f) in
    let result = result_of s (Some f) in
    body_with s arguments result
    (whole s n (record { result = result; without = instr.Ret ∷ [] }) (body_of s.tree f)
    (own_with (formal_names s 0 f.formals) arguments))

-- Permissions: those from a state on, of an enumeration of states; a number that is none of its states has `Invalid`.

abbrev pub permission_given : ℕ → List Instr
permission_given permission = instr.Push (value.Enum 1 permission) 0 ∷ instr.Ret ∷ []

abbrev pub permission_chosen : (states state : ℕ) → List ℕ → Segment
permission_chosen states state [] = just (permission_given 2)
permission_chosen states state (permission ∷ others) =
    just (instr.Load 0 ∷ instr.Push (value.Enum states state) 0 ∷ instr.Eq ∷ [])
    ⨾ guard (just (permission_given permission)) (permission_chosen states (state + 1) others)

-- of a machine of the protocol, as a body of this one
abbrev pub permission_code : Reading → MachineSymbols → Code
permission_code s m =
    plain_body s (kind.Enum m.states 0 ∷ []) (Some (kind.Enum 1 0)) (permission_chosen m.states 0 m.permissions 0)

-- Ports.

abbrev pub port_code : Reading → BodyNumbers → PortSymbol → Code
port_code s n p =
    body_with s [] None
    (whole s n (record { result = None; without = instr.Ret ∷ [] }) (port_block (slice_get s.tree.declarations p.declaration))
    (own_with [] []))

-- What a transition is about: the line's address, the references to its entry and its TBE and, for its actions, the state before it or the
-- one that it enters.

abbrev pub about_kinds : Reading → List Kind
about_kinds s = kind.Addr ∷ entry_kind s ∷ tbe_kind s ∷ []

abbrev pub transition_kinds : Reading → List Kind
transition_kinds s = about_kinds s ++ state_kind s ∷ []

abbrev pub about_names : Reading → List NameAt
about_names s =
    with_name (codes "address") (home.Local 0 kind.Addr)
    (cond (is_some s.machine.entry) (with_name (codes "cache_entry") (home.Local entry_slot (entry_kind s)) (tbe_names s)) (tbe_names s))
  where
    tbe_names : Reading → List NameAt
    tbe_names s = cond (is_some s.machine.tbe) (with_name (codes "tbe") (home.Local tbe_slot (tbe_kind s)) []) []

abbrev pub state_slot : ℕ
state_slot = 3

-- States, which functions of the machine read and set, or else the built-in map does.

abbrev pub state_argument : Instr → StateArgument → Instr
state_argument state Tbe = instr.Load tbe_slot
state_argument state Entry = instr.Load entry_slot
state_argument state Address = instr.Load 0
state_argument state State = state

-- a function on these, where the state is given by that instruction
abbrev pub state_called : BodyNumbers → Instr → List StateArgument → ℕ → List Instr
state_called n state arguments function =
    map (state_argument state) arguments ++ instr.Call (function_body_number n function) ∷ []

abbrev pub state_entered : Reading → Option Next → Instr
state_entered s (Some (To state)) = instr.Push (value.Enum s.machine.states state) 0
state_entered s _ = instr.Load state_slot

abbrev pub state_operation : ℕ
state_operation = 60

abbrev pub state_set : Reading → BodyNumbers → Instr → Option ℕ → List Instr
state_set s n state None = instr.Load 0 ∷ state ∷ instr.Op state_operation 0 ∷ []
state_set s n state (Some function) = state_called n state (set_state_arguments s.machine) function

abbrev pub permission_set : Reading → BodyNumbers → Instr → Option ℕ → List Instr
permission_set s n state None = []
permission_set s n state (Some function) = state_called n state (set_permission_arguments s.machine) function

-- Transitions.

abbrev pub settling_code : Reading → BodyNumbers → Option Next → Code
settling_code s n next =
    let state = state_entered s next in
    plain_body s (transition_kinds s) None
    (state_set s n state s.machine.set_state ++ permission_set s n state s.machine.set_permission ++ instr.Ret ∷ [])

-- the body of this number on what the transition is about then
abbrev pub handed_on : ℕ → List Instr
handed_on next =
    instr.Load 0 ∷ instr.Load entry_slot ∷ instr.Load tbe_slot ∷ instr.Load state_slot ∷ instr.Call next ∷ instr.Ret ∷ []

abbrev pub action_code : Reading → BodyNumbers → (number next : ℕ) → Code
action_code s n number next =
    body_with s (transition_kinds s) None
    (whole s n (record { result = None; without = handed_on next }) (body_of_action s number)
    (own_with (about_names s) (transition_kinds s)))

-- for these actions and what comes after them; of fewer actions the bodies have the numbers from this one on, the fewest first
abbrev pub rest_code : Reading → BodyNumbers → Option Next → (first : ℕ) → List ℕ → Code
rest_code s n next first [] = settling_code s n next
rest_code s n next first (action ∷ actions) = action_code s n action (first + length actions)

abbrev pub rest_codes : Reading → BodyNumbers → Option Next → (first : ℕ) → List ℕ → List Code
rest_codes s n next first [] = []
rest_codes s n next first (action ∷ actions) = rest_codes s n next first actions ++ rest_code s n next first actions ∷ []

-- Reading states.

abbrev pub read_code : Reading → BodyNumbers → ℕ → Code
read_code s n function =
    plain_body s (about_kinds s) (Some (state_kind s))
    (state_called n (instr.Load state_slot) (get_state_arguments s.machine) function ++ instr.Ret ∷ [])

abbrev pub asked_code : Reading → BodyNumbers → ℕ → Code
asked_code s n function =
    plain_body s (kind.Addr ∷ []) (Some (state_kind s)) (instr.Load 0 ∷ instr.Call (function_body_number n function) ∷ instr.Ret ∷ [])
