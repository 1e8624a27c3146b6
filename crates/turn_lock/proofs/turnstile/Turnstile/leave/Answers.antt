use Rattle.std.proofs.Common.{rules, Some, ap, ◌∙◌, sym, subst}
use Rattle.turn_lock.specs.Histories.{Adds}
use Rattle.turn_lock.proofs.Keeps.{hands_back}
use Rattle.turn_lock.proofs.Stages.{stage_inside}
use Rattle.turn_lock.proofs.turnstile.Turnstile.leave.Goals as goal

pub fetch_add-requires : goal.fetch_add-requires
fetch_add-requires g c =
    let is_in = stage_inside _ c.pass.invariant.4 (ap (λ v. v.inside) c.pass.view_is ∙ c.requires.inside) in
    let plan = c.pass.invariant.3 ∙ ap Some (ap (λ v. v.plan) c.pass.view_is ∙ sym c.requires.plan) in
    let adds = subst (λ v. Adds v.number v.entered (g.V.Kept.history c.args.value)) (sym c.pass.view_is) c.requires.history in
    (search rules, search rules, hands_back g.V.Kept.plan g.V.Kept.history _ _ _ _ c.pass.inside.seat.me _ c.args.value is_in c.pass.invariant.5 (c.exchange.ensures.3) plan adds)
