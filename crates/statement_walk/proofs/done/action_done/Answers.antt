use Rattle.std.proofs.Common.{Some, sym}
use Rattle.std.proofs.lemmas.Result.{err_from_is_err_and}
use Rattle.body_meaning.specs.Prelude.{Ended, reading, body_of_action, about_left}
use Rattle.statement_walk.proofs.BodyEnds.{body_ends, body_stops}
use Rattle.statement_walk.proofs.done.action_done.Goals as goal

pub returns-in_err-_flow : goal.returns-in_err-_flow
returns-in_err-_flow g c =
    let s = reading c.args.s in
    let p = err_from_is_err_and c.from_residual.result c.from_residual.ensures.1 in
    rw (p.1, p.2)
    (body_stops (λ (e : Ended). about_left c.args.a e.frame) s (body_of_action s c.args.number) c.in-Some.block.now (Some c.args.a) c.body_done.new.frame c.new.result c.deref.result.now
    (sym c.in-Some.ensures) c.new.ensures c.deref.ensures (g.T.Local.view c.args.local.now) (g.T.Local.view c.body_done.new.local) _ c.in_err-_flow.ensures)

pub returns : goal.returns
returns g c =
    let s = reading c.args.s in
    body_ends (λ (e : Ended). about_left c.args.a e.frame) s (body_of_action s c.args.number) c.in-Some.block.now (Some c.args.a) c.body_done.new.frame c.new.result c.deref.result.now
    (sym c.in-Some.ensures) c.new.ensures c.deref.ensures (g.T.Local.view c.args.local.now) (g.T.Local.view c.body_done.new.local)
    c.in_ok-_flow._flow c.about_left.result c.about_left.ensures c.in_ok-_flow.ensures
