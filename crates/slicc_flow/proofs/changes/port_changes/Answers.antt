use Rattle.std.proofs.Common.{◌∙◌, ap}
use Rattle.slicc_plan.specs.Prelude.{changes_at, first_after}
use Rattle.slicc_flow.proofs.FirstOf.{flat_step}
use Rattle.slicc_flow.proofs.changes.port_changes.Goals as goal

pub loop-b-preserved : goal.loop-b-preserved
loop-b-preserved c =
    flat_step (changes_at c.args.machine) c.args.ports.now c.loop-b.b-index c.b-item.result c.loop-b.first c.changes_of-first.result c.args.first
    c.loop-b-test.true c.loop-b.invariant
    (c.changes_of-first.ensures ∙ ap (λ b. first_after c.loop-b.first (changes_at c.args.machine b)) c.b-item.is)
