use Rattle.std.proofs.Common.{rules, ◌<◌, ◌∷◌, Some, ap, ◌∙◌, sym, subst}
use Rattle.atomic_table.specs.Table.{rest}
use Rattle.turn_lock.proofs.Keeps.{draws}
use Rattle.turn_lock.proofs.Stages.{stage_out}
use Rattle.turn_lock.proofs.turnstile.Turnstile.enter.Goals as goal

pub fetch_add-ticket-requires : goal.fetch_add-ticket-requires
fetch_add-ticket-requires g c =
    let out = stage_out _ c.pass.invariant.4 (ap (λ v. v.inside) c.pass.view_is ∙ c.requires.outside) in
    (search rules, search rules, draws g.V.Kept.plan g.V.Kept.history _ _ _ _ _ out (subst (λ n. 0 < n) (sym c.pass.invariant.0) c.pass.invariant.1))

pub exchange-requires : goal.exchange-requires
exchange-requires g c =
    let came = c.await_turn.ensures.came in
    let has = ap (λ m. m.1) came.1 in
    (search rules, (Some came.0, has ∙ ap (λ cs. (0, Some came.0) ∷ cs) (sym (ap rest has))))
