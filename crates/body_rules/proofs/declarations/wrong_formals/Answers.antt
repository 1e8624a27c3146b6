use Rattle.std.proofs.Common.{None}
use Rattle.slicc_plan.specs.Prelude.{wrong_formal}
use Rattle.body_rules.proofs.Lists.{one_step}
use Rattle.body_rules.proofs.declarations.wrong_formals.Goals as goal

pub loop-f-preserved : goal.loop-f-preserved
loop-f-preserved c =
    one_step (wrong_formal c.args.m.scopes.now.trees.now c.args.m.lines.machine.now) c.args.formals.now c.loop-f.f-index c.f-item.result None c.loop-f.first c.wrong_formal.result c.earlier_of_two-first.result c.loop-f-test.true c.f-item.is c.wrong_formal.ensures c.earlier_of_two-first.ensures c.loop-f.invariant
