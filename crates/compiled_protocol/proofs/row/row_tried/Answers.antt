use Rattle.std.proofs.lemmas.Result.{err_from_is_err_and}
use Rattle.compiled_protocol.specs.Prelude.{machine_code}
use Rattle.compiled_protocol.proofs.Stalls.{row_goes, row_halts, short_waits, stalled_waits}
use Rattle.compiled_protocol.proofs.row.row_tried.Goals as goal

pub returns-in_err-short : goal.returns-in_err-short
returns-in_err-short g c =
    let p = err_from_is_err_and c.from_residual.result c.from_residual.ensures.1 in
    rw (p.1, p.2)
    (row_halts (machine_code c.args.m) c.args.t c.args.state c.args.row.now c.known-k.result c.known-k.ensures _ _ c.room_lacks.result c.room_lacks.ensures
    c.in_err-short.field-0.0 _ c.in_err-short.ensures)

pub returns-then-short : goal.returns-then-short
returns-then-short g c =
    short_waits (machine_code c.args.m) c.args.t c.args.state c.args.row.now c.known-k.result c.known-k.ensures _ _ c.room_lacks.result c.room_lacks.ensures
    c.in_ok-short.short c.in_ok-short.ensures _ c.told-then-short.result c.if-short.true c.waiting.result c.told-then-short.ensures c.waiting.ensures

pub returns-then-stalls : goal.returns-then-stalls
returns-then-stalls g c =
    stalled_waits (machine_code c.args.m) c.args.t c.args.state c.args.row.now c.known-k.result c.known-k.ensures _ _ c.room_lacks.result c.room_lacks.ensures
    c.in_ok-short.short c.in_ok-short.ensures _ c.told-then-stalls.result c.if-short.false c.is_stall_among-stalls.result
    (rw c.deref.ensures at c.is_stall_among-stalls.ensures) c.if-stalls.true c.waiting-then-stalls.result c.told-then-stalls.ensures
    c.waiting-then-stalls.ensures

pub returns : goal.returns
returns g c =
    row_goes (machine_code c.args.m) c.args.t c.args.state c.args.row.now c.known-k.result c.known-k.ensures _ _ c.room_lacks.result c.room_lacks.ensures
    c.in_ok-short.short c.in_ok-short.ensures _ c.row_goes_on.result c.if-short.false c.is_stall_among-stalls.result
    (rw c.deref.ensures at c.is_stall_among-stalls.ensures) c.if-stalls.false c.row_goes_on.ensures
