-- What a worker holds by what its pass has seen, it holds by what the pass sees later, too.
use Rattle.std.proofs.Common.{◌≤◌, ◌++◌, ℕ, List, length, refl}
use Rattle.std.proofs.lemmas.List.{map-append}
use Rattle.slicc_ast.specs.declared.tree.item.Tree.{Tree}
use Rattle.run_journal.specs.declared.event.Event.{Event}
use Rattle.ctl_face.specs.Prelude.{Ctl, last_cycle}
use Rattle.ruby_topology.specs.declared.topology.Topology.{Topology}
use Rattle.protocol_runs.specs.Prelude.{AreOfOthers, IsMeaning, IsSetting, World}
use Rattle.protocol_meaning.specs.Prelude.{FitsPlan, meaning_of, setting_of}
use Rattle.ruby_world.specs.declared.world.Held.{Held}
use Rattle.ruby_world.specs.Prelude.{HasAddedAll, Holds, IsWorldOf, WorldView, setting_in}
use Rattle.sequencer.specs.Prelude.{Drive, Seat}
use Rattle.network_book.specs.declared.plan.RunPlan.{RunPlan}
use Rattle.network_book.specs.Numbers.{event_of, events_of}
use Rattle.network_book.specs.Plans.{HoldsAfter, IsKnown, view_after}

module _ {D : Type 0} (least : D → ℕ) (drive : D → List Seat → ℕ → Drive D)
    (means : (trees : List Tree) → IsMeaning (meaning_of trees))
    (lawful : (trees : List Tree) (t : Topology) (seed cycles limit : ℕ) (driver : D) → FitsPlan trees t → cycles ≤ last_cycle → least driver ≤ length t.seats
    → IsSetting least (setting_of trees t seed cycles limit driver))
    (stays : (old new : WorldView D) (rest : List Event) (worker : ℕ) (h : Held) (w v : World Ctl D) → IsMeaning (meaning_of old.trees) → IsSetting least (setting_in old)
    → IsWorldOf drive old w → IsWorldOf drive new v → HasAddedAll old rest new → AreOfOthers worker h.controller rest → Holds drive old worker h → Holds drive new worker h) where
  pub hands-over : (run : RunPlan D) (seen rest : List ℕ) (worker : ℕ) (h : Held) → IsKnown least drive run (seen ++ rest) → AreOfOthers worker h.controller (events_of rest)
      → HoldsAfter least drive run seen worker h → HoldsAfter least drive run (seen ++ rest) worker h
  hands-over run seen rest worker h known others holds = record {
    known = known;
    holds =
        stays (view_after run seen holds.known.journal) (view_after run (seen ++ rest) known.journal) (events_of rest) worker h holds.known.world known.world (means run.plan)
        (lawful run.plan run.topology run.limits.seed run.limits.cycles run.limits.limit run.driver known.fits known.cycles known.enough)
        holds.known.is known.is
        (record { trees = refl; topology = refl; limits = refl; opening = refl; history = map-append event_of seen rest })
        others holds.holds;
  }
