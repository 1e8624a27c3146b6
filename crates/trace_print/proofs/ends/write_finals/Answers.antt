use Rattle.std.proofs.lemmas.List.{drop_more}
use Rattle.trace_print.specs.Prelude.{final_line}
use Rattle.trace_print.proofs.Listing.{last_line, next_line, no_line}
use Rattle.trace_print.proofs.ends.write_finals.Goals as goal

pub loop-last-preserved : goal.loop-last-preserved
loop-last-preserved g c =
    let l = c.loop-last in
    λ whole after rest. l.invariant whole after
    (next_line g.S.Sink.writes (final_line c.args.symbols.now c.args.names.now) c.args.finals.now l.last-index _ l.sink c.write_final.new.sink after whole
    (drop_more c.args.finals.now l.last-index _ c.loop-last-test.true) c.if-not-write_final.ensures rest)

pub returns-then-not-write_final : goal.returns-then-not-write_final
returns-then-not-write_final g c =
    let l = c.loop-last in
    l.invariant _ _
    (last_line g.S.Sink.writes (final_line c.args.symbols.now c.args.names.now) c.args.finals.now l.last-index _ l.sink c.write_final.new.sink
    (drop_more c.args.finals.now l.last-index _ c.loop-last-test.true) c.if-not-write_final.ensures)

pub returns : goal.returns
returns g c = let l = c.loop-last in l.invariant _ _ (no_line g.S.Sink.writes (final_line c.args.symbols.now c.args.names.now) c.args.finals.now l.last-index l.sink c.loop-last-test.false)
