-- What workers hold of a world, each at most one controller, while others take, scan and give back their own.
use Rattle.std.specs.Prelude.{◌≡◌, ◌≤◌, ◌==◌, ℕ, List, Option, IfSome, false, length}
use Rattle.ctl_face.specs.Prelude.{Ctl, last_cycle}
use Rattle.protocol_meaning.specs.Prelude.{FitsPlan}
use Rattle.protocol_runs.specs.Prelude.{World}
use Rattle.ruby_world.specs.declared.world.Held.{Held}
use Rattle.ruby_world.specs.Prelude.{Holds, IsWorldOf, WorldView}
use Rattle.sequencer.specs.Prelude.{Drive, Seat}

-- the run is of the same protocol, over the same topology, within the same bounds
pub record IsSameRun {D : Type 0} (old new : WorldView D) : Type 0 where
  pub trees : new.trees ≡ old.trees
  pub topology : new.topology ≡ old.topology
  pub limits : new.limits ≡ old.limits

module _ {D : Type 0} (drive : D → List Seat → ℕ → Drive D) where
  -- what is held, if anything is, this worker holds
  abbrev pub IsHand : WorldView D → ℕ → Option Held → Type 0
  IsHand v worker hand = IfSome hand (Holds drive v worker)

  -- the run is the same, and what any worker but this one held it holds
  pub record LeavesOthers (worker : ℕ) (old new : WorldView D) : Type 0 where
    pub run : IsSameRun old new
    pub others : (other : ℕ) (h : Held) → (worker == other) ≡ false → Holds drive old other h → Holds drive new other h

  -- what is known of every world
  pub record IsLawful (least : D → ℕ) (v : WorldView D) : Type 0 where
    pub run : (w : World Ctl D) × IsWorldOf drive v w
    pub fits : FitsPlan v.trees v.topology
    pub cycles : v.limits.cycles ≤ last_cycle
    pub enough : least v.opening ≤ length v.topology.seats
