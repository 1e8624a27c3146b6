-- A controller of a run with a topology that fits the protocol has a local in which a scan may be done.
use Rattle.std.proofs.Common.{◌≡◌, ◌∙◌, ℕ, List, Some, slice_get, subst, sym}
use Rattle.slicc_ast.specs.declared.tree.item.Tree.{Tree}
use Rattle.slicc_plan.proofs.Machines.{symbols_counted}
use Rattle.ctl_face.specs.Prelude.{IsLawful, IsOfMachine, LocalView, RoutesFit}
use Rattle.ctl_face.specs.declared.routes.Routes.{Routes}
use Rattle.ruby_topology.specs.declared.topology.Topology.{Topology}
use Rattle.protocol_meaning.specs.Prelude.{FitsPlan, IsLocalOf, ranges_of, setups_of}
use Rattle.protocol_meaning.proofs.ByNumber.{setups_at}

pub local_fits : (trees : List Tree) (t : Topology) (machine : ℕ) (v : LocalView) → FitsPlan trees t → slice_get (setups_of trees t.sizes) machine ≡ Some v.machine
    → IsOfMachine (ranges_of t) machine v.actor.me → v.actor.routes ≡ t.routes → IsLawful v → IsLocalOf trees machine v
local_fits trees t machine v fits there of_machine same lawful =
    let sizes = fits.sizes in
    record {
      topology = t;
      sizes = sizes;
      setup = sym (setups_at trees t.sizes machine (sizes.each_machine ∙ symbols_counted trees)) ∙ there;
      of_machine = of_machine;
      routes = subst (λ (r : Routes). RoutesFit (setups_of trees t.sizes) (ranges_of t) r) (sym same) fits.routes;
      lawful = lawful;
    }
