-- When parts are sound: the bodies that they name are there, each of its machine and with the arguments and the result that it is run by.
-- And when they serve a protocol: it is accepted, they are sound, their program carries what the protocol means, their tables answer its
-- written transitions and how many states there are, their flow tells what transitions need and send, and they name the bodies and the rest as the protocol has them.
-- What its in ports trigger has references to lines of the tables that entries and TBEs are in, so that other bodies may be run on it.
use Rattle.std.specs.Prelude.{ℕ, ◌≡◌, ◌+◌, ◌<◌, ◌^◌, true, All, IfSome, Option, None, Some, List, [], ◌∷◌, slice_get}
use Rattle.slicc_ast.specs.declared.tree.item.Tree.{Tree}
use Rattle.ruby_value.specs.declared.kind.Kind.{Kind}
use Rattle.ruby_value.specs.declared.kind.Kind.TheVariants as kind
use Rattle.ruby_value.specs.Prelude.{is_reference}
use Rattle.slicc_plan.specs.declared.row.Row.{Row}
use Rattle.slicc_plan.specs.Prelude.{IsAccepted, needs}
use Rattle.machine_table.specs.Prelude.{AreStateCountsOf, AreTablesOf, answer, state_count}
use Rattle.slicc_flow.specs.Checks.{count_in}
use Rattle.slicc_flow.specs.Sends.{sends, sends_in}
use Rattle.action_code.specs.declared.program.MachineDecl.{MachineDecl}
use Rattle.action_code.specs.declared.program.Program.{Program}
use Rattle.action_code.specs.Prelude.{tables_of}
use Rattle.ruby_symbols.specs.declared.machine.PortSymbol.{PortSymbol}
use Rattle.ctl_face.specs.Prelude.{LocalView}
use Rattle.acts.specs.Prelude.{run}
use Rattle.body_meaning.specs.declared.frame.Flow.{Flow}
use Rattle.body_meaning.specs.declared.frame.Flow.TheVariants.{Triggered}
use Rattle.body_meaning.specs.Prelude.{Reading, about, port_done}
use Rattle.code_meaning.specs.Prelude.{HoldsOfAnswer, are_of_kinds}
use Rattle.protocol_meaning.specs.Prelude.{reading_of}
use Rattle.body_code.specs.Prelude.{about_kinds}
use Rattle.action_gen.specs.declared.parts.Head.{Head}
use Rattle.action_gen.specs.declared.parts.Parts.{Parts}
use Rattle.action_gen.specs.Carries.{Carries, InMachine, IsBody, about_values}
use Rattle.action_gen.specs.Heads.{heads_of}

module _ (parts : Parts) (machine : ℕ) where
  abbrev pub p : Program
  p = parts.program

  -- the bodies of a machine whose declaration is this
  pub record SoundHead (m : MachineDecl) (h : Head) : Type 0 where
    -- the kinds of references to entries and to TBEs
    pub entry : Kind
    pub tbe : Kind
    pub entry_is : is_reference entry ≡ true
    pub tbe_is : is_reference tbe ≡ true
    pub ports : All (IsBody p machine [] None) h.ports
    pub reads : IfSome h.reads (IsBody p machine (kind.Addr ∷ entry ∷ tbe ∷ []) (Some (kind.Enum m.states 0)))
    pub asks : IfSome h.asks (IsBody p machine (kind.Addr ∷ []) (Some (kind.Enum m.states 0)))
    pub rows : (state event : ℕ) (row : Row) → answer parts.tables machine state event ≡ Some row
        → IsBody p machine (kind.Addr ∷ entry ∷ tbe ∷ kind.Enum m.states 0 ∷ []) None (h.first + row.transition)
    -- the numbers of bodies have 32 bits
    pub numbered : (state event : ℕ) (row : Row) → answer parts.tables machine state event ≡ Some row
        → h.first + row.transition < 2 ^ 32

  -- A machine that has a head is declared; of one that has none nothing is answered.
  abbrev pub SoundAt : Option MachineDecl → Option Head → Type 0
  SoundAt (Some m) (Some h) = SoundHead m h
  SoundAt None (Some h) = ⊥
  SoundAt m None = (state event : ℕ) → answer parts.tables machine state event ≡ None

abbrev pub Sound : Parts → Type 0
Sound parts = (machine : ℕ) → SoundAt parts machine (slice_get parts.program.machines machine) (slice_get parts.heads machine)

-- a `trigger` names lines of these tables
module _ (p : Program) (machine : ℕ) (s : Reading) where
  abbrev pub IsTypedFlow : Flow → Type 0
  IsTypedFlow (Triggered t) = are_of_kinds (tables_of (slice_get p.machines machine)) (about_kinds s) (about_values (about t)) ≡ true
  IsTypedFlow _ = Unit {0}

  abbrev pub TriggersTyped : PortSymbol → Type 0
  TriggersTyped port = (v : LocalView) → InMachine p machine v → HoldsOfAnswer IsTypedFlow (run (port_done s port) v)

pub record Serves (parts : Parts) (trees : List Tree) : Type 0 where
  pub accepted : IsAccepted trees
  pub sound : Sound parts
  pub carries : Carries parts.program trees
  pub tables : AreTablesOf trees (answer parts.tables)
  pub state_counts : AreStateCountsOf trees (state_count parts.tables)
  pub needs_are : (machine transition table : ℕ) → count_in parts.flow.0 machine transition table ≡ needs trees machine transition table
  pub sends_are : (machine transition buffer : ℕ) → sends_in parts.flow.1 machine transition buffer ≡ sends trees machine transition buffer
  pub heads : parts.heads ≡ heads_of parts.program trees
  pub triggers : (machine : ℕ) (s : Reading) → reading_of trees machine ≡ Some s
      → All (TriggersTyped parts.program machine s) s.machine.in_ports
