-- What is broken from this body on is what is broken at all; a fault in this body is the first.
use Rattle.std.proofs.Common.{sym, ◌∙◌}
use Rattle.action_code.proofs.Numbered.{few_instructions}
use Rattle.action_code.proofs.Steps.{answers_through, bodies_next, or_none, or_some}
use Rattle.action_code.proofs.checking.check_bodies.Goals as goal

pub returns-in-Err : goal.returns-in-Err
returns-in-Err c =
    answers_through (Unit {0}) (Unit {0}) _ _ c.in-Err.fault
    (λ x e. sym c.loop-body.invariant
    ∙ bodies_next c.args.p.now c.args.p.now.bodies c.loop-body.body c.index.result.now c.index.ensures
    ∙ or_some _ _ x e)
    c.in-Err.ensures

pub loop-body-preserved : goal.loop-body-preserved
loop-body-preserved c =
    sym (or_none _ _ c.in-Ok.ensures)
    ∙ sym (bodies_next c.args.p.now c.args.p.now.bodies c.loop-body.body c.index.result.now c.index.ensures)
    ∙ c.loop-body.invariant

pub check_body-requires : goal.check_body-requires
check_body-requires c = few_instructions c.args.p.now c.loop-body.body c.index.result.now c.requires c.index.ensures
