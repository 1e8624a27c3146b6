-- What a scan may take for granted of the local that it is done in: it is a lawful one of a controller of the machine, in some run of
-- the protocol. So what the machine is to the controller is what the protocol gives it, with the sizes of a topology; the controller fits
-- that, and has a number of the machine; and the routes and the sizes fit the protocol. The topology's names and seats are left open,
-- since a scan sees nothing of them.
use Rattle.std.specs.Prelude.{ℕ, ◌≡◌, List, Some, option_and_then, slice_get}
use Rattle.slicc_ast.specs.declared.tree.item.Tree.{Tree}
use Rattle.slicc_plan.specs.Prelude.{setup_of}
use Rattle.ctl_face.specs.Prelude.{IsLawful, IsOfMachine, LocalView, RoutesFit}
use Rattle.ruby_topology.specs.declared.topology.Topology.{Topology}
use Rattle.protocol_meaning.specs.FitsPlan.{AreSizesOfAll}
use Rattle.protocol_meaning.specs.Setups.{ranges_of, setups_of}

pub record IsLocalOf (trees : List Tree) (machine : ℕ) (v : LocalView) : Type 0 where
  pub topology : Topology
  pub sizes : AreSizesOfAll trees topology
  pub setup : option_and_then (setup_of trees machine) (slice_get topology.sizes machine) ≡ Some v.machine
  pub of_machine : IsOfMachine (ranges_of topology) machine v.actor.me
  pub routes : RoutesFit (setups_of trees topology.sizes) (ranges_of topology) v.actor.routes
  pub lawful : IsLawful v

-- of some protocol of these
pub record IsServedLocal (serves : List Tree → Type 0) (machine : ℕ) (v : LocalView) : Type 0 where
  pub trees : List Tree
  pub served : serves trees
  pub local : IsLocalOf trees machine v
