use Rattle.machine_table.specs.Prelude.{found_by, found_name}
use Rattle.machine_table.proofs.NumbersOfNames.{filter_step}
use Rattle.machine_table.proofs.written.numbers_of.Goals as goal

pub loop-name-preserved : goal.loop-name-preserved
loop-name-preserved c =
    let step = filter_step (found_name (found_by c.args.numbers.now)) c.args.names.now c.loop-name.name-index c.name-item.result c.loop-name-test.true in
    cc (c.in_ok-add_number.ensures, c.loop-name.invariant, c.name-item.is)
