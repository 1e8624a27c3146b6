use Rattle.std.proofs.Common.{arith}
use Rattle.ruby_world.proofs.Openings.{few-controllers, few-counts}
use Rattle.ruby_world.proofs.opening.seat_at.Goals as goal

pub machine_of-machine-requires-clause-few : goal.machine_of-machine-requires-clause-few
machine_of-machine-requires-clause-few c =
    let few = few-counts c.args.plan.now c.args.topology.now c.requires.fits in
    rw c.as_slice.ensures (omega (arith, few))

pub machine_of-machine-requires-clause-all : goal.machine_of-machine-requires-clause-all
machine_of-machine-requires-clause-all c =
    let few = few-controllers c.args.plan.now c.args.topology.now c.requires.fits in
    rw c.as_slice.ensures (omega (arith, few))
