use Rattle.std.proofs.Common.{[], ◌∷◌}
use Rattle.trace_print.proofs.Adding.{line_ended}
use Rattle.trace_print.proofs.line.end_line.Goals as goal

pub returns : goal.returns
returns g c =
    line_ended g.S.Sink.writes c.args.sink.now c.add.new.sink c.put.new.sink c.args.line.now.items c.add.new.line.items (10 ∷ []) c.as_slice.result.now c.put.result
    c.as_slice.ensures.value c.as_slice.ensures.fits c.if-not-add.ensures c.put.ensures.by_writes
