-- Stores as a run over a topology begins: each was made for its controller, which is as a run begins. And the data of a world then.
use Rattle.std.specs.Prelude.{◌≡◌, ℕ, Some, List, length, slice_get, sum}
use Rattle.slicc_ast.specs.declared.tree.item.Tree.{Tree}
use Rattle.ctl_face.specs.Prelude.{opening_ctl}
use Rattle.ctl_store.specs.Prelude.{ctl_of, machine_of, me_of}
use Rattle.ruby_topology.specs.declared.topology.Topology.{Topology}
use Rattle.protocol_meaning.specs.Prelude.{AtSetup}
use Rattle.world_state.specs.declared.place.Kept.{Kept}
use Rattle.world_state.specs.declared.state.State.{State}
use Rattle.world_state.specs.Prelude.{IsOpening}

module _ (trees : List Tree) (t : Topology) where
  pub record IsOpenedFor (c : ℕ) (k : Kept) : Type 0 where
    pub setup : AtSetup trees t c (λ m. m ≡ machine_of k.store)
    pub me : me_of k.store ≡ c
    pub routes : k.routes ≡ t.routes
    pub ctl : ctl_of k.store ≡ opening_ctl (machine_of k.store)

  -- in the order of their numbers
  pub record AreOpened (kept : List Kept) : Type 0 where
    pub count : length kept ≡ sum t.counts
    pub each : (c : ℕ) (k : Kept) → slice_get kept c ≡ Some k → IsOpenedFor c k

  pub record IsOpened {D : Type 0} (driver : D) (st : State D) : Type 0 where
    pub kept : List Kept
    pub opened : AreOpened kept
    pub opening : IsOpening kept driver st
