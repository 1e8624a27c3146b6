use Rattle.std.proofs.Common.{refl, true, false}
use Rattle.slicc_plan.specs.Prelude.{symbols_of}
use Rattle.trace_print.specs.Prelude.{rest_lines}
use Rattle.trace_print.proofs.Listing.{lines_on, lines_stopped}
use Rattle.ruby_answers.specs.Prelude.{traced_lines}
use Rattle.ruby_answers.proofs.runs.write_run.Goals as goal

pub returns-then-not-write_traced : goal.returns-then-not-write_traced
returns-then-not-write_traced g c =
    let r = c.args.run.now in
    lines_stopped g.S.Sink.writes c.args.sink.now (traced_lines r) false c.write_traced.new.sink c.if-not-write_traced.ensures
    (rest_lines (symbols_of r.plan) r.topology.names r.finals r.account r.verdict) refl

pub returns : goal.returns
returns g c =
    let r = c.args.run.now in
    lines_on g.S.Sink.writes c.args.sink.now (traced_lines r) true c.write_traced.new.sink c.if-not-write_traced.ensures
    (rest_lines (symbols_of r.plan) r.topology.names r.finals r.account r.verdict) c.write_rest.result c.write_rest.new.sink refl c.write_rest.ensures.pieces
