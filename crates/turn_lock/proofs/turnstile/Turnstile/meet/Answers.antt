use Rattle.std.proofs.Common.{rules, ◌<◌, ◌+◌, ◌∷◌, ap, ◌∙◌, sym, subst, arith}
use Rattle.turn_lock.specs.Histories.{AreOwned}
use Rattle.turn_lock.specs.Tickets.{held_at}
use Rattle.turn_lock.proofs.Histories.{all_owned}
use Rattle.turn_lock.proofs.Meets.{meets, compares}
use Rattle.turn_lock.proofs.Stages.{stage_out}
use Rattle.turn_lock.proofs.turnstile.Turnstile.meet.Goals as goal

pub join_seat-requires : goal.join_seat-requires
join_seat-requires g c =
    let out = stage_out _ c.pass.invariant.4 (ap (λ v. v.inside) c.pass.view_is ∙ c.requires.outside.0) in
    let out' = stage_out _ c.other.invariant.4 (ap (λ v. v.inside) c.other.view_is ∙ c.requires.outside.1) in
    let some_part = subst (λ n. 0 < n) (sym c.pass.invariant.0) c.pass.invariant.1 in
    let some_part' = subst (λ n. 0 < n) (sym c.other.invariant.0) c.other.invariant.1 in
    (search rules, search rules, c.other.invariant.5 ∙ ap held_at out', search rules, meets g.V.Kept.plan g.V.Kept.history _ _ _ _ _ _ out out' some_part some_part' c.pass.invariant.6 c.other.invariant.6)

pub load-requires : goal.load-requires
load-requires g c =
    let out = stage_out _ c.pass.invariant.4 (ap (λ v. v.inside) c.pass.view_is ∙ c.requires.outside.0) in
    let some_part : 0 < c.pass.inside.seat.me.0.parts + c.other.inside.seat.me.0.parts = let a = c.pass.invariant.0 in let b = c.pass.invariant.1 in omega arith in
    let is = c.join_seat.ensures.2 in
    (search rules, search rules, compares g.V.Kept.plan g.V.Kept.history _ _ _ _ _ (ap (λ m. m.0.stage) is ∙ out) (subst (λ n. 0 < n) (sym (ap (λ m. m.0.parts) is)) some_part))

pub returns-clause-entries : goal.returns-clause-entries
returns-clause-entries g c =
    let told = c.load.ensures.2 in
    subst (λ m. AreOwned ((m.0.number, m.0.mine) ∷ m.0.others) m.0.seen) (sym told.0) (all_owned _ _ _ _ told.4.0 told.4.1)
