use Rattle.std.proofs.Common.{◌||◌, ◌+◌, ◌∙◌, drop, sym, ap}
use Rattle.slicc_flow.proofs.Asked.{asked_among, first_asked}
use Rattle.slicc_flow.proofs.machine.any_asked.Goals as goal

pub loop-d-preserved : goal.loop-d-preserved
loop-d-preserved c =
    let ds = c.args.ds.now in
    c.loop-d.invariant ∙ first_asked ds c.loop-d.d-index c.d-item.result c.loop-d-test.true c.d-item.is
    ∙ ap (λ b. b || asked_among (drop (c.loop-d.d-index + 1) ds)) (sym c.is_asked.ensures ∙ c.if-is_asked.false)

pub returns-then-is_asked : goal.returns-then-is_asked
returns-then-is_asked c =
    let ds = c.args.ds.now in
    sym
    (c.loop-d.invariant ∙ first_asked ds c.loop-d.d-index c.d-item.result c.loop-d-test.true c.d-item.is
    ∙ ap (λ b. b || asked_among (drop (c.loop-d.d-index + 1) ds)) (sym c.is_asked.ensures ∙ c.if-is_asked.true))
