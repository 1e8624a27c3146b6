use Rattle.std.proofs.Common.{◌≡◌, map}
use Rattle.slicc_plan.specs.Prelude.{machines_of}
use Rattle.machine_table.proofs.StateCounts.{counts_are}
use Rattle.machine_table.proofs.making.tables_of.Goals as goal

pub returns-clause-counts : goal.returns-clause-counts
returns-clause-counts c =
    counts_are (λ m. m.now) (machines_of c.args.trees.now) c.in_ok-machines.machines c.in_ok-counts.counts c.in_ok-machines.ensures
    (rw c.deref-2.ensures at c.in_ok-counts.ensures)
