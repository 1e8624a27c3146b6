use Rattle.std.proofs.Common.{◌≡◌, Option, ap, arith, is_some, subst, sym, ◌∙◌}
use Rattle.std.proofs.lemmas.Option.{slice_get_within}
use Rattle.std.proofs.lemmas.Option.{same_Some}
use Rattle.slicc_ast.specs.declared.tree.machine.Machine.{Machine}
use Rattle.slicc_plan.specs.Prelude.{AreSizesOf}
use Rattle.ctl_store.specs.Prelude.{machine_of}
use Rattle.ruby_world.specs.Prelude.{IsOpenedFor}
use Rattle.ruby_world.proofs.Openings.{few-controllers, few-counts, machine-there-is, setup-at, there}
use Rattle.ruby_world.proofs.opening.kept_at.Goals as goal

pub machine_of-machine-requires-clause-few : goal.machine_of-machine-requires-clause-few
machine_of-machine-requires-clause-few c =
    let few = few-counts c.args.plan.now c.args.topology.now c.requires.fits in
    rw c.as_slice.ensures (omega (arith, few))

pub machine_of-machine-requires-clause-all : goal.machine_of-machine-requires-clause-all
machine_of-machine-requires-clause-all c =
    let few = few-controllers c.args.plan.now c.args.topology.now c.requires.fits in
    rw c.as_slice.ensures (omega (arith, few))

pub machine_of-machine-requires-clause-there : goal.machine_of-machine-requires-clause-there
machine_of-machine-requires-clause-there c =
    rw c.as_slice.ensures (machine-there-is c.args.plan.now c.args.topology.now c.requires.fits c.args.c c.requires.there)

pub index-requires : goal.index-requires
index-requires c =
    let found = rw c.as_slice.ensures at c.machine_of-machine.ensures in
    let is = there c.args.plan.now c.args.topology.now c.requires.fits c.args.c c.machine_of-machine.result found in
    slice_get_within c.args.topology.now.sizes c.machine_of-machine.result is.own is.is_own

pub new-requires-clause-machine : goal.new-requires-clause-machine
new-requires-clause-machine c =
    let found = rw c.as_slice.ensures at c.machine_of-machine.ensures in
    let is = there c.args.plan.now c.args.topology.now c.requires.fits c.args.c c.machine_of-machine.result found in
    ap (λ (o : Option Machine). is_some o) is.at

pub new-requires-clause-sizes : goal.new-requires-clause-sizes
new-requires-clause-sizes c =
    let found = rw c.as_slice.ensures at c.machine_of-machine.ensures in
    let is = there c.args.plan.now c.args.topology.now c.requires.fits c.args.c c.machine_of-machine.result found in
    let same : is.own ≡ c.index.result.now = same_Some is.own c.index.result.now (sym is.is_own ∙ c.index.ensures) in
    subst (AreSizesOf c.args.plan.now) same is.room

pub returns : goal.returns
returns c =
    let found = rw c.as_slice.ensures at c.machine_of-machine.ensures in
    let it : IsOpenedFor c.args.plan.now c.args.topology.now c.args.c (record { store = c.in_ok-store.store; routes = c.in_ok-routes.routes }) = record {
      setup =
          setup-at c.args.plan.now c.args.topology.now c.requires.fits c.args.c c.machine_of-machine.result c.index.result.now (machine_of c.in_ok-store.store) found
          c.index.ensures c.in_ok-store.ensures.machine;
      me = c.in_ok-store.ensures.me;
      routes = c.in_ok-routes.ensures;
      ctl = c.in_ok-store.ensures.opening;
    } in
    it
