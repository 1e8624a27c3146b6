use Rattle.std.proofs.Common.{subst, sym}
use Rattle.slicc_plan.specs.Prelude.{HasFewMachines}
use Rattle.slicc_plan.proofs.Few.{few_machines}
use Rattle.slicc_names.specs.Prelude.{IsCollected}
use Rattle.reading_rows.proofs.tables.add_found.Goals as goal

pub add_rows-requires : goal.add_rows-requires
add_rows-requires c =
    subst HasFewMachines (sym c.deref.ensures) (few_machines c.args.trees.now (subst (IsCollected c.args.trees.now) c.in-Ok.is c.collect.ensures).0)
