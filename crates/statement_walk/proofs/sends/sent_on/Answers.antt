use mir.Val.{SFits}
use Rattle.std.proofs.Common.{Ok, Err, ℤ, rules, subst, w64}
use Rattle.std.proofs.lemmas.Int.{to_z-of_z}
use Rattle.std.proofs.lemmas.Result.{err_from_is_err_and}
use Rattle.acts.specs.Act as act
use Rattle.acts.specs.Prelude.{act as done, DoesAs, itself}
use Rattle.acts.proofs.Walk.{does_without_memory}
use Rattle.body_meaning.specs.Prelude.{calls_within, reading}
use Rattle.statement_walk.proofs.Sending.{is_sent, no_latency, not_sent}
use Rattle.statement_walk.proofs.sends.sent_on.Goals as goal

pub returns-in_err-fields : goal.returns-in_err-fields
returns-in_err-fields g c =
    let p = err_from_is_err_and c.from_residual.result c.from_residual.ensures.1 in rw (p.1, p.2) (does_without_memory _ _ _ _)

pub returns-in_err-l : goal.returns-in_err-l
returns-in_err-l g c =
    let p = err_from_is_err_and c.from_residual-in_err-l.result c.from_residual-in_err-l.ensures.1 in
    rw (p.1, p.2) (no_latency (reading c.args.s) (calls_within (reading c.args.s) c.args.depth) c.args.buffer c.args.written.now c.args.n c.args.frame.now c.leave.new.frame c.leave.ensures _ _ _ _ c.in_err-l.ensures)

pub returns-in_err-send : goal.returns-in_err-send
returns-in_err-send g c =
    let p = err_from_is_err_and c.from_residual-in_err-send.result c.from_residual-in_err-send.ensures.1 in
    let fits : SFits w64 c.in_ok-l.l = search rules in
    rw (p.1, p.2) (not_sent (reading c.args.s) (calls_within (reading c.args.s) c.args.depth) c.args.buffer c.args.written.now c.args.n c.args.frame.now c.leave.new.frame c.leave.ensures _ _ _ c.in_ok-l.l c.in_ok-fields.fields c.in_ok-fields.ensures c.in_ok-l.ensures c.in_err-send.field-0.0
    (subst (λ (k : ℤ). DoesAs itself (done (act.Send c.args.buffer k c.in_ok-fields.fields)) (Err c.in_err-send.field-0.0) (g.T.Local.view c.latency.new.local) (g.T.Local.view c.send.new.local)) (to_z-of_z w64 c.in_ok-l.l fits) c.in_err-send.ensures))

pub returns : goal.returns
returns g c =
    let fits : SFits w64 c.in_ok-l.l = search rules in
    is_sent (reading c.args.s) (calls_within (reading c.args.s) c.args.depth) c.args.buffer c.args.written.now c.args.n c.args.frame.now c.leave.new.frame c.leave.ensures _ _ _ c.in_ok-l.l c.in_ok-fields.fields c.in_ok-fields.ensures c.in_ok-l.ensures
    (subst (λ (k : ℤ). DoesAs itself (done (act.Send c.args.buffer k c.in_ok-fields.fields)) (Ok tt) (g.T.Local.view c.latency.new.local) (g.T.Local.view c.send.new.local)) (to_z-of_z w64 c.in_ok-l.l fits) c.in_ok-send.ensures)
