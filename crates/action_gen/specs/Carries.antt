-- What it is for a program to carry what a protocol means. What it declares of each machine is what the protocol gives that machine. Each
-- root is a body of its machine, and in each lawful local of a machine that is as the program declares that one it does what the protocol's
-- text says, on each line and state and each references of their kinds: it has the same answer, or the same fault, and leaves the same
-- local. A program may carry several protocols, so nothing of these is asked of the local. Of a transition
-- that is never fired, since `z_stall` is among its actions, nothing is said but that there is a body. A root of a transition has the state
-- before it as its last argument, and with `*` the state that it enters.
use Rattle.std.specs.Prelude.{ℕ, ◌≡◌, ◌+◌, false, true, Option, None, Some, List, [], ◌∷◌, ◌++◌, slice_get}
use Rattle.slicc_ast.specs.declared.tree.item.Tree.{Tree}
use Rattle.ruby_value.specs.declared.kind.Kind.{Kind}
use Rattle.ruby_value.specs.declared.kind.Kind.TheVariants as kind
use Rattle.ruby_value.specs.declared.setup.MachineSetup.{MachineSetup}
use Rattle.ruby_value.specs.declared.setup.Sizes.{Sizes}
use Rattle.ruby_value.specs.declared.value.Value.{Value}
use Rattle.ruby_value.specs.declared.value.Value.TheVariants as value
use Rattle.ruby_symbols.specs.declared.machine.Next.{Next}
use Rattle.ruby_symbols.specs.declared.machine.Next.TheVariants.{To}
use Rattle.ruby_symbols.specs.declared.machine.PortSymbol.{PortSymbol}
use Rattle.ruby_symbols.specs.declared.machine.TransitionSymbol.{TransitionSymbol}
use Rattle.ruby_symbols.specs.Prelude.{get_state_arguments}
use Rattle.slicc_plan.specs.Prelude.{AreSizesOf, setup_of}
use Rattle.ctl_face.specs.Prelude.{IsLawful, LocalView}
use Rattle.acts.specs.Prelude.{Acting, ends, run, ◌>>=◌}
use Rattle.action_code.specs.declared.instr.Code.{Code}
use Rattle.action_code.specs.declared.program.Program.{Program}
use Rattle.action_code.specs.declared.program.TableDecl.{TableDecl}
use Rattle.action_code.specs.Prelude.{tables_of}
use Rattle.body_meaning.specs.declared.frame.About.{About}
use Rattle.body_meaning.specs.declared.frame.Flow.{Flow}
use Rattle.body_meaning.specs.declared.frame.Flow.TheVariants.{Triggered}
use Rattle.body_meaning.specs.declared.thing.Thing.{Thing}
use Rattle.body_meaning.specs.declared.thing.Trigger.{Trigger}
use Rattle.body_meaning.specs.Prelude.{Reading, about, arguments_for, calls_of, fired, is_stall_among, port_done, value_in}
use Rattle.code_meaning.specs.declared.code_end.CodeEnd.{CodeEnd}
use Rattle.code_meaning.specs.declared.code_end.CodeEnd.TheVariants as code_end
use Rattle.code_meaning.specs.Prelude.{IsDeclared, are_of_kinds, run_body}
use Rattle.protocol_meaning.specs.Prelude.{reading_of}
use Rattle.body_code.specs.Prelude.{about_kinds, next_function, state_kind, transition_kinds}
use Rattle.action_gen.specs.declared.parts.Head.{Head}
use Rattle.action_gen.specs.Heads.{heads_of}

-- a lawful local of a controller of the machine of this number, as the program declares it, whatever a topology sets
pub record InMachine (p : Program) (machine : ℕ) (v : LocalView) : Type 0 where
  pub declared : IsDeclared p (slice_get p.machines machine) v.machine
  pub lawful : IsLawful v

-- both do the same in each of these locals
abbrev pub Same : (LocalView → Type 0) → {A : Type 0} → Acting A → Acting A → Type 0
Same I p q = (v : LocalView) → I v → run p v ≡ run q v

-- a body of the machine of this number, with these arguments and this result
pub record IsBody (p : Program) (machine : ℕ) (arguments : List Kind) (result : Option Kind) (body : ℕ) : Type 0 where
  pub code : Code
  pub is_there : slice_get p.bodies body ≡ Some code
  pub of_machine : code.machine ≡ machine
  pub arguments_are : code.arguments ≡ arguments
  pub result_is : code.result ≡ result

-- Ends and arguments.

abbrev pub port_end : Flow → CodeEnd
port_end (Triggered t) = code_end.Trigger t.event t.address t.entry t.tbe
port_end _ = code_end.Nothing

abbrev pub answer_end : Thing → CodeEnd
answer_end t = code_end.Value (value_in t)

abbrev pub about_values : About → List Value
about_values a = value.Addr a.address ∷ value.Entry a.entry ∷ value.Entry a.tbe ∷ []

-- the state that a transition enters, by its last argument
abbrev pub entered : Option Next → ℕ → ℕ
entered (Some (To next)) state = next
entered _ state = state

-- Roots.

module _ (p : Program) (trees : List Tree) (machine : ℕ) (s : Reading) where
  abbrev pub tables : List TableDecl
  tables = tables_of (slice_get p.machines machine)

  abbrev pub AreSame : {A : Type 0} → Acting A → Acting A → Type 0
  AreSame one other = Same (InMachine p machine) one other

  -- references to lines of the tables that they are to be of
  abbrev pub AreTyped : About → Type 0
  AreTyped a = are_of_kinds tables (about_kinds s) (about_values a) ≡ true

  pub record DoesPort (port : PortSymbol) (root : ℕ) : Type 0 where
    pub body : IsBody p machine [] None root
    pub does : AreSame (run_body p root []) (port_done s port >>= (λ flow. ends (port_end flow)))

  pub record DoesRead (function root : ℕ) : Type 0 where
    pub body : IsBody p machine (about_kinds s) (Some (state_kind s)) root
    pub does : (a : About) → AreTyped a
        → AreSame (run_body p root (about_values a))
        (calls_of s function (arguments_for s.machine a 0 (get_state_arguments s.machine)) >>= (λ t. ends (answer_end t)))

  pub record DoesAsk (function root : ℕ) : Type 0 where
    pub body : IsBody p machine (kind.Addr ∷ []) (Some (state_kind s)) root
    pub does : (address : ℕ)
        → AreSame (run_body p root (value.Addr address ∷ []))
        (calls_of s function (value.Addr address ∷ []) >>= (λ t. ends (answer_end t)))

  pub record DoesFire (row : TransitionSymbol) (root : ℕ) : Type 0 where
    pub body : IsBody p machine (transition_kinds s) None root
    pub does : is_stall_among row.actions s.machine.stall ≡ false → (t : Trigger) (state : ℕ) → AreTyped (about t)
        → AreSame (run_body p root (about_values (about t) ++ value.Enum s.machine.states state ∷ []))
        (fired s t state (entered row.next state) row >>= (λ _. ends code_end.Nothing))

  pub record CarriesMachine (h : Head) : Type 0 where
    pub ports : (j root : ℕ) (port : PortSymbol) → slice_get s.machine.in_ports j ≡ Some port
        → slice_get h.ports j ≡ Some root → DoesPort port root
    pub reads : (function root : ℕ) → s.machine.get_state ≡ Some function → h.reads ≡ Some root → DoesRead function root
    pub asks : (function root : ℕ) → next_function s.machine ≡ Some function → h.asks ≡ Some root → DoesAsk function root
    pub fires : (j : ℕ) (row : TransitionSymbol) → slice_get s.machine.transitions j ≡ Some row → DoesFire row (h.first + j)

-- A whole program.
pub record Carries (p : Program) (trees : List Tree) : Type 0 where
  pub declares : (machine : ℕ) (sizes : Sizes) (setup : MachineSetup) → AreSizesOf trees sizes
      → setup_of trees machine sizes ≡ Some setup → IsDeclared p (slice_get p.machines machine) setup
  pub machines : (machine : ℕ) (s : Reading) (h : Head) → reading_of trees machine ≡ Some s
      → slice_get (heads_of p trees) machine ≡ Some h → CarriesMachine p trees machine s h
