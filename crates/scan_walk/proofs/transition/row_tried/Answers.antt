use Rattle.std.proofs.lemmas.Result.{err_from_is_err_and}
use Rattle.body_meaning.specs.Prelude.{reading}
use Rattle.acts.proofs.Walk.{then_does, then_stops}
use Rattle.scan_walk.proofs.Stalls.{row_goes_on, row_stops, short_waits, stalled_waits}
use Rattle.scan_walk.proofs.transition.row_tried.Goals as goal

pub returns-in_err-short : goal.returns-in_err-short
returns-in_err-short g c =
    let p = err_from_is_err_and c.from_residual.result c.from_residual.ensures.1 in
    rw (p.1, p.2)
    (row_stops (reading c.args.s) c.args.t c.args.state c.args.row.now _ _ _ _ (rw c.deref.ensures at c.in_err-short.ensures))

pub returns-then-short : goal.returns-then-short
returns-then-short g c =
    short_waits (reading c.args.s) c.args.t c.args.state c.args.row.now _ _ _ c.in_ok-short.short
    (rw c.deref.ensures at c.in_ok-short.ensures) c.waiting.result c.if-short.true c.waiting.ensures

pub returns-then-stalls : goal.returns-then-stalls
returns-then-stalls g c =
    stalled_waits (reading c.args.s) c.args.t c.args.state c.args.row.now _ _ _ c.in_ok-short.short
    (rw c.deref.ensures at c.in_ok-short.ensures) c.waiting-then-stalls.result c.is_stall_among-stalls.result
    (rw c.deref-2.ensures at c.is_stall_among-stalls.ensures) c.if-short.false c.if-stalls.true c.waiting-then-stalls.ensures

pub returns-in_err-next : goal.returns-in_err-next
returns-in_err-next g c =
    let p = err_from_is_err_and c.from_residual-in_err-next.result c.from_residual-in_err-next.ensures.1 in
    rw (p.1, p.2)
    (row_goes_on (reading c.args.s) c.args.t c.args.state c.args.row.now _ _ _ c.in_ok-short.short
    (rw c.deref.ensures at c.in_ok-short.ensures) _ c.is_stall_among-stalls.result
    (rw c.deref-2.ensures at c.is_stall_among-stalls.ensures) c.if-short.false c.if-stalls.false (then_stops _ _ _ _ _ _ _ _ c.in_err-next.ensures))

pub returns : goal.returns
returns g c =
    row_goes_on (reading c.args.s) c.args.t c.args.state c.args.row.now _ _ _ c.in_ok-short.short
    (rw c.deref.ensures at c.in_ok-short.ensures) c.fired.result c.is_stall_among-stalls.result
    (rw c.deref-2.ensures at c.is_stall_among-stalls.ensures) c.if-short.false c.if-stalls.false (then_does _ _ _ _ _ _ _ _ _ c.in_ok-next.ensures c.fired.ensures)
