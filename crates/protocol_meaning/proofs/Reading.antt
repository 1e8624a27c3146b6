-- What bodies are read by is within an extent: the values that fields begin with, the permissions of states, the states and events of
-- written transitions, and where the machines' numbers are kept. And what a body has at a place in it: values, messages and triggers.
use Rattle.std.specs.Prelude.{ℕ, IfSome, List, length, slice_get}
use Rattle.std.specs.List.{All}
use Rattle.ruby_value.specs.declared.value.Value.{Value}
use Rattle.ruby_symbols.specs.declared.machine.MachineSymbols.{MachineSymbols}
use Rattle.ruby_symbols.specs.declared.machine.Next.{Next}
use Rattle.ruby_symbols.specs.declared.machine.Next.TheVariants.{To, Asked}
use Rattle.ruby_symbols.specs.declared.machine.TransitionSymbol.{TransitionSymbol}
use Rattle.ruby_symbols.specs.declared.types.FieldSymbol.{FieldSymbol}
use Rattle.ruby_symbols.specs.declared.types.StructureSymbol.{StructureSymbol}
use Rattle.body_meaning.specs.declared.frame.Bound.{Bound}
use Rattle.body_meaning.specs.declared.frame.Flow.{Flow}
use Rattle.body_meaning.specs.declared.frame.Flow.TheVariants.{WentOn, Returned, Triggered}
use Rattle.body_meaning.specs.declared.frame.Frame.{Frame}
use Rattle.body_meaning.specs.declared.thing.Thing.{Thing}
use Rattle.body_meaning.specs.declared.thing.Thing.TheVariants as thing
use Rattle.body_meaning.specs.Prelude.{Reading}
use Rattle.protocol_meaning.specs.Prelude.{Extent, AreWithin, IsMember, IsWithin}
use Rattle.protocol_meaning.proofs.Bounds.{Bounds}
use Rattle.protocol_meaning.proofs.KeptBounds.{KeptWithin}

-- of a run with n controllers, of which those of the machine have these values in their table of values
abbrev pub extent_of : Reading → (controllers : ℕ) → Extent
extent_of s controllers = record { enumerations = s.symbols.enumerations; controllers = controllers }

abbrev pub bounds_of : Reading → (controllers : ℕ) → List Value → Bounds
bounds_of s controllers values = record {
  extent = extent_of s controllers;
  states = s.machine.states;
  table = length s.machine.tables;
  values = values;
}

-- what a transition names as the state after it, in a machine with this enumeration of states
abbrev pub NextWithin : Extent → (states : ℕ) → Next → Type 0
NextWithin e states (To state) = IsMember e states state
NextWithin e states Asked = Unit {0}

-- a written transition of a machine with these enumerations of states and events
pub record TransitionWithin (e : Extent) (states events : ℕ) (t : TransitionSymbol) : Type 0 where
  pub from : All (IsMember e states) t.states
  pub on : All (IsMember e events) t.events
  pub next : IfSome t.next (NextWithin e states)

pub record ReadingWithin (s : Reading) (controllers : ℕ) (values : List Value) : Type 0 where
  pub kept : KeptWithin (bounds_of s controllers values) s.kept
  pub structures :
      (structure : ℕ) → IfSome (slice_get s.symbols.structures structure)
      (λ (t : StructureSymbol). All (λ (f : FieldSymbol). IsWithin (extent_of s controllers) f.initial) t.fields)
  -- those of `AccessPermission`, of which the third is `Invalid`
  pub permissions : All (λ (m : MachineSymbols). All (IsMember (extent_of s controllers) 1) m.permissions) s.symbols.machines
  pub invalid : IsMember (extent_of s controllers) 1 2
  pub transitions : All (TransitionWithin (extent_of s controllers) s.machine.states s.machine.events) s.machine.transitions

-- What a body has at a place in it, in a machine with this enumeration of events.
module _ (e : Extent) (events : ℕ) where
  abbrev pub ThingWithin : Thing → Type 0
  ThingWithin (thing.Value v) = IsWithin e v
  ThingWithin (thing.Message structure fields) = AreWithin e fields
  ThingWithin (thing.Trigger t) = IsMember e events t.event
  ThingWithin _ = Unit {0}

  abbrev pub FlowWithin : Flow → Type 0
  FlowWithin WentOn = Unit {0}
  FlowWithin (Returned t) = ThingWithin t
  FlowWithin (Triggered t) = IsMember e events t.event

  abbrev pub FrameWithin : Frame → Type 0
  FrameWithin frame = All (λ (b : Bound). ThingWithin b.thing) frame.names
