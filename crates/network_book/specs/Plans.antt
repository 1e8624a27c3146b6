-- What a worker knows of a run by its pass: what the run began with, which is the plan of the lock, and the numbers of the events that it
-- has seen. They lead to one world of the run, by which everything is said.
use Rattle.std.specs.Prelude.{◌≤◌, ℕ, List, length}
use Rattle.run_journal.specs.declared.entry.Entry.{Entry}
use Rattle.ctl_face.specs.Prelude.{Ctl, last_cycle}
use Rattle.protocol_runs.specs.Prelude.{World}
use Rattle.protocol_meaning.specs.Prelude.{FitsPlan}
use Rattle.ruby_world.specs.declared.world.Held.{Held}
use Rattle.ruby_world.specs.Prelude.{Holds, IsWorldOf, WorldView, opened}
use Rattle.sequencer.specs.Prelude.{Drive, Seat}
use Rattle.network_book.specs.declared.plan.RunPlan.{RunPlan}
use Rattle.network_book.specs.Numbers.{events_of}

module _ {D : Type 0} where
  -- what a world's run began with
  abbrev pub plan_of : WorldView D → RunPlan D
  plan_of v = record { plan = v.trees; topology = v.topology; limits = v.limits; driver = v.opening }

  -- a run as it begins, and after the events of these numbers
  abbrev pub begun : RunPlan D → WorldView D
  begun run = opened run.plan run.topology run.limits run.driver

  abbrev pub view_after : RunPlan D → List ℕ → List Entry → WorldView D
  view_after run seen journal = record {
    trees = run.plan;
    topology = run.topology;
    limits = run.limits;
    opening = run.driver;
    history = events_of seen;
    journal = journal;
  }

module _ {D : Type 0} (least : D → ℕ) (drive : D → List Seat → ℕ → Drive D) (run : RunPlan D) where
  -- it can be run, and these are the numbers of a run of it
  pub record IsKnown (seen : List ℕ) : Type 0 where
    pub fits : FitsPlan run.plan run.topology
    pub cycles : run.limits.cycles ≤ last_cycle
    pub enough : least run.driver ≤ length run.topology.seats
    pub journal : List Entry
    pub world : World Ctl D
    pub is : IsWorldOf drive (view_after run seen journal) world

  -- after the events of these numbers the worker holds a controller so
  pub record HoldsAfter (seen : List ℕ) (worker : ℕ) (h : Held) : Type 0 where
    pub known : IsKnown seen
    pub holds : Holds drive (view_after run seen known.journal) worker h

module _ {D : Type 0} (drive : D → List Seat → ℕ → Drive D) (run : RunPlan D) (seen : List ℕ) where
  -- of the world to which the events of these numbers lead, and its journal, this holds
  abbrev pub After : (WorldView D → World Ctl D → Type 0) → Type 0
  After P =
      (journal : List Entry) (w : World Ctl D) → IsWorldOf drive (view_after run seen journal) w
      → P (view_after run seen journal) w
