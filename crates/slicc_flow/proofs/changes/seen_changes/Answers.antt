use Rattle.std.proofs.Common.{◌∙◌, [], ap, cond}
use Rattle.slicc_plan.specs.Prelude.{is_reached, first_after, changes_at, reached_changes}
use Rattle.slicc_flow.proofs.FirstOf.{reached_step}
use Rattle.slicc_flow.proofs.changes.seen_changes.Goals as goal

pub loop-number-preserved : goal.loop-number-preserved
loop-number-preserved c =
    reached_step c.args.machine c.args.functions.now c.args.calls.now c.loop-number.number c.index-functions-number.result c.loop-number.first c.changes_if-first.result c.args.first
    (reached_changes c.args.machine c.args.functions.now c.args.calls.now 0 c.args.functions.now)
    c.loop-number-test.true c.loop-number.invariant
    (c.changes_if-first.ensures ∙ ap (λ v. first_after c.loop-number.first (cond v (changes_at c.args.machine c.index-functions-number.result) [])) (c.requires.seen c.loop-number.number c.loop-number-test.true)
    ∙ ap (λ b. first_after c.loop-number.first (cond (is_reached c.args.functions.now c.loop-number.number c.args.calls.now) (changes_at c.args.machine b) [])) c.index-functions-number.is)
