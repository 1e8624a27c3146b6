-- What it means that a topology fits the protocol that it is used with. Each machine has sizes and 1 to 64 controllers, which are
-- 64 at most in all; the sizes are of its own tables and numbers, each said once at most, within the ranges of topologies, and they
-- know all machines' controllers; the controllers have their names; the routes fit the machines, as they ask for it; and there is
-- a seat, the seats are in increasing number, so that each has another controller, and each controller that has one has a buffer
-- `mandatoryQueue` of its own with messages of type `RubyRequest`, and a sequencer where the seat says so.
use Rattle.std.specs.Prelude.{ℕ, ◌≡◌, ◌≢◌, ◌<◌, ◌≤◌, ◌*◌, ◌≤ℤ◌, All, IfSome, IsSomeAnd, true, ℤ, pos, List, [], length, map, option_and_then, slice_get}
use Rattle.std.specs.List.{AllPairs}
use Rattle.ruby_value.specs.declared.kind.Kind.TheVariants.{Int}
use Rattle.ruby_value.specs.declared.setup.MachineSetup.{MachineSetup}
use Rattle.ruby_value.specs.declared.setup.Sizes.{Sizes}
use Rattle.ruby_symbols.specs.declared.machine.MachineSymbols.{MachineSymbols}
use Rattle.ruby_symbols.specs.declared.machine.TableSort.{TableSort}
use Rattle.ruby_symbols.specs.declared.machine.TableSort.TheVariants as sort
use Rattle.ruby_symbols.specs.declared.machine.TableSymbol.{TableSymbol}
use Rattle.ruby_symbols.specs.declared.types.FieldSymbol.{FieldSymbol}
use Rattle.slicc_ast.specs.declared.tree.item.Tree.{Tree}
use Rattle.slicc_plan.specs.Prelude.{symbols_of}
use Rattle.ctl_face.specs.Prelude.{IsMachine, RoutesFit}
use Rattle.ruby_topology.specs.declared.topology.Topology.{Topology}
use Rattle.ruby_topology.specs.Prelude.{members_from, name_of}
use Rattle.protocol_runs.specs.Prelude.{HasQueue, machine_of, SeatSetup}
use Rattle.protocol_meaning.specs.Seats.{seat_setups}
use Rattle.protocol_meaning.specs.Setups.{ranges_of, setups_of}

-- Sizes of a machine.

abbrev pub HasTable : MachineSymbols → ℕ → (TableSort → Type 0) → Type 0
HasTable m table P = IsSomeAnd (slice_get m.tables table) (λ (t : TableSymbol). P t.sort)

abbrev pub IsTbe : TableSort → Type 0
IsTbe (sort.Tbe entries) = Unit {0}
IsTbe _ = ⊥

pub record IsCacheSize (m : MachineSymbols) (c : ℕ × ℕ × ℕ) : Type 0 where
  pub table : HasTable m c.0 (λ s. s ≡ sort.Cache)
  pub sets : 1 ≤ c.1
  pub ways : 1 ≤ c.2
  pub lines : c.1 * c.2 ≤ 65536

pub record IsTbesSize (m : MachineSymbols) (t : ℕ × ℕ) : Type 0 where
  pub table : HasTable m t.0 IsTbe
  pub some : 1 ≤ t.1
  pub few : t.1 ≤ 256

pub record IsNumberOf (m : MachineSymbols) (v : ℕ × ℤ) : Type 0 where
  pub value : IsSomeAnd (slice_get m.values v.0) (λ (f : FieldSymbol). f.kind ≡ Int)
  pub least : pos 0 ≤ℤ v.1

pub record AreSizesIn (ranges : List (ℕ × ℕ)) (m : MachineSymbols) (s : Sizes) : Type 0 where
  pub machines : s.machines ≡ ranges
  pub caches : All (IsCacheSize m) s.caches
  pub caches_once : AllPairs (λ (a b : ℕ × ℕ × ℕ). a.0 ≢ b.0) s.caches
  pub tbes : All (IsTbesSize m) s.tbes
  pub tbes_once : AllPairs (λ (a b : ℕ × ℕ). a.0 ≢ b.0) s.tbes
  pub numbers : All (IsNumberOf m) s.parameters
  pub numbers_once : AllPairs (λ (a b : ℕ × ℤ). a.0 ≢ b.0) s.parameters

-- of all machines
pub record AreSizesOfAll (trees : List Tree) (t : Topology) : Type 0 where
  pub each_machine : length t.sizes ≡ length (symbols_of trees).machines
  pub own :
      (machine : ℕ) → IfSome (slice_get (symbols_of trees).machines machine)
      (λ m. IsSomeAnd (slice_get t.sizes machine) (AreSizesIn (ranges_of t) m))

-- Seats.

-- what its machine is to a controller
abbrev pub AtSetup : List Tree → Topology → ℕ → (MachineSetup → Type 0) → Type 0
AtSetup trees t controller P =
    IsSomeAnd (option_and_then (λ machine. slice_get (setups_of trees t.sizes) machine) (machine_of (ranges_of t) controller)) P

abbrev pub IsSeat : List Tree → Topology → SeatSetup → Type 0
IsSeat trees t s =
    AtSetup trees t s.controller (λ m. HasQueue s.queue m × (s.has_sequencer ≡ true → m.has_sequencer ≡ true))

abbrev pub ComesBefore : SeatSetup → SeatSetup → Type 0
ComesBefore a b = a.controller < b.controller

pub record AreSeatsOf (trees : List Tree) (t : Topology) : Type 0 where
  pub some : t.seats ≢ []
  pub ascending : AllPairs ComesBefore (seat_setups (symbols_of trees) t)
  pub each : All (IsSeat trees t) (seat_setups (symbols_of trees) t)

-- The whole.

pub record FitsPlan (trees : List Tree) (t : Topology) : Type 0 where
  pub sizes : AreSizesOfAll trees t
  pub names : t.names ≡ map (name_of (symbols_of trees)) (members_from 0 t.counts)
  pub machines : All IsMachine (setups_of trees t.sizes)
  pub routes : RoutesFit (setups_of trees t.sizes) (ranges_of t) t.routes
  pub seats : AreSeatsOf trees t
