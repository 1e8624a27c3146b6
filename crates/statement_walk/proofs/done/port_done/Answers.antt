use Rattle.std.proofs.Common.{None, refl, slice_get, sym}
use Rattle.std.proofs.lemmas.Result.{err_from_is_err_and}
use Rattle.body_meaning.specs.Prelude.{Ended, reading, port_block}
use Rattle.statement_walk.proofs.BodyEnds.{body_ends, body_stops}
use Rattle.statement_walk.proofs.done.port_done.Goals as goal

pub returns-in_err-flow : goal.returns-in_err-flow
returns-in_err-flow g c =
    let s = reading c.args.s in
    let p = err_from_is_err_and c.from_residual.result c.from_residual.ensures.1 in
    rw (p.1, p.2)
    (body_stops (λ (e : Ended). e.flow) s (port_block (slice_get s.tree.declarations c.args.p.now.declaration)) c.in-Some.block.now None c.body_done.new.frame c.new.result c.deref.result.now
    (sym c.in-Some.ensures) c.new.ensures c.deref.ensures (g.T.Local.view c.args.local.now) (g.T.Local.view c.body_done.new.local) _ c.in_err-flow.ensures)

pub returns : goal.returns
returns g c =
    let s = reading c.args.s in
    body_ends (λ (e : Ended). e.flow) s (port_block (slice_get s.tree.declarations c.args.p.now.declaration)) c.in-Some.block.now None c.body_done.new.frame c.new.result c.deref.result.now
    (sym c.in-Some.ensures) c.new.ensures c.deref.ensures (g.T.Local.view c.args.local.now) (g.T.Local.view c.body_done.new.local)
    c.in_ok-flow.flow c.in_ok-flow.flow refl c.in_ok-flow.ensures
