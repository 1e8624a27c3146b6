-- What is read off a world that has ended, as its data have it.
use Rattle.std.proofs.Common.{◌≡◌, ℕ, List, Option, None, Some, IsSome, subst}
use Rattle.slicc_ast.specs.declared.tree.item.Tree.{Tree}
use Rattle.run_journal.specs.declared.summary.Account.{Account}
use Rattle.protocol_runs.specs.Prelude.{account, IsRun, Meaning, rules, Setting}
use Rattle.ruby_topology.specs.declared.topology.Topology.{Topology}
use Rattle.ctl_face.specs.Prelude.{Ctl}
use Rattle.protocol_meaning.specs.Prelude.{meaning_of}
use Rattle.sequencer.specs.Prelude.{Drive, Seat}
use Rattle.world_state.specs.Prelude.{world_of}
use Rattle.world_state.specs.declared.state.State.{State}
use Rattle.ruby_world.specs.declared.world.RunLimits.{RunLimits}
use Rattle.ruby_world.specs.Prelude.{view_of, InWorld, WorldView, rules_in, setting_in}
use Rattle.ruby_world.proofs.ReadOff.{in-world}

-- a run that has ended has a verdict
pub none-there : {A : Type 0} (o : Option A) → None ≡ o → IsSome o → ⊥
none-there None none there = cc there
none-there (Some x) none there = cc none

module _ {D : Type 0} (drive : D → List Seat → ℕ → Drive D) where
  -- a world's data, where its run has ended
  module _ (opening : D → D) (trees : List Tree) (t : Topology) (limits : RunLimits) (held : Ctl) (st : State D) where
    abbrev V : WorldView D
    V = view_of opening trees t limits st

    module _ (run : IsRun (rules_in drive V) st.book.history (world_of held st) st.book.journal) (v : WorldView D) (is : V ≡ v) where
      pub accounted-there : (a : Account)
          → ((p : Meaning) (d : D → List Seat → ℕ → Drive D) (s : Setting D) (h : Ctl) → a ≡ account (rules p d s) st.book.journal (world_of h st).places)
          → InWorld drive v (λ w. a ≡ account (rules_in drive v) v.journal w.places)
      accounted-there a all =
          subst (λ (u : WorldView D). InWorld drive u (λ w. a ≡ account (rules_in drive u) u.journal w.places)) is
          (in-world drive V (world_of held st) run (λ w. a ≡ account (rules_in drive V) st.book.journal w.places)
          (all (meaning_of trees) drive (setting_in V) held))
