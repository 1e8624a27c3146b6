-- The law, for each run of an accepted protocol.
use Rattle.std.proofs.Common.{◌≡◌, ◌≤◌, ℕ, All, List, Some, length, slice_get}
use Rattle.run_journal.specs.declared.entry.Entry.{Entry}
use Rattle.run_journal.specs.declared.event.Event.{Event}
use Rattle.protocol_runs.specs.Prelude.{IsRun, Place, World, IsSetting, rules, Setting}
use Rattle.slicc_ast.specs.declared.tree.item.Tree.{Tree}
use Rattle.slicc_plan.specs.Prelude.{IsAccepted}
use Rattle.ruby_topology.specs.declared.topology.Topology.{Topology}
use Rattle.ctl_face.specs.Prelude.{Ctl, last_cycle}
use Rattle.sequencer.specs.Drive as own
use Rattle.sequencer.specs.Prelude.{Seat}
use Rattle.protocol_meaning.specs.Prelude.{FitsPlan, ranges_of, meaning_of, setting_of, ControllerWithin, EntryWithin}
use Rattle.protocol_runs.proofs.Driver.{IsDriver}
use Rattle.protocol_meaning.proofs.Settings.{is_setting}
use Rattle.protocol_meaning.proofs.Machines.{machine_within}
use Rattle.protocol_meaning.proofs.Runs.{controllers_within, entries_within}

module _ {D : Type 0} (drive : D → List Seat → ℕ → own.Drive D) (needs : D → ℕ → ℕ) (least : D → ℕ) (driver : IsDriver drive needs least)
    (trees : List Tree) (t : Topology) (seed cycles limit : ℕ) (first : D) (accepted : IsAccepted trees) (fit : FitsPlan trees t)
    (few : cycles ≤ last_cycle) (enough : least first ≤ length t.seats) where
  abbrev s : Setting D
  s = setting_of trees t seed cycles limit first

  is : IsSetting least s
  is = is_setting least trees t seed cycles limit first fit few enough

  pub controllers_stay : (history : List Event) (w : World Ctl D) (journal : List Entry) → IsRun (rules (meaning_of trees) drive s) history w journal
      → (c : ℕ) (place : Place Ctl) → slice_get w.places c ≡ Some place → ControllerWithin trees (ranges_of t) (length w.places) c place.controller
  controllers_stay = controllers_within trees drive needs least s driver is (machine_within trees accepted t fit is.routes.total is.routes.numbers.numbered)

  pub entries_stay : (history : List Event) (w : World Ctl D) (journal : List Entry) → IsRun (rules (meaning_of trees) drive s) history w journal
      → All (EntryWithin trees (ranges_of t) (length w.places)) journal
  entries_stay = entries_within trees drive needs least s driver is (machine_within trees accepted t fit is.routes.total is.routes.numbers.numbered)
