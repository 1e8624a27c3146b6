use Rattle.std.proofs.Common.{◌∙◌, ap, flat_map}
use Rattle.slicc_plan.specs.Prelude.{symbols_of}
use Rattle.trace_print.specs.Prelude.{entry_lines}
use Rattle.ruby_answers.specs.Prelude.{in_text_order, traced_lines}
use Rattle.ruby_answers.proofs.Following.{no_part, same_lines, traced, untraced}
use Rattle.ruby_answers.proofs.runs.write_traced.Goals as goal

pub returns-then-not-run : goal.returns-then-not-run
returns-then-not-run g c =
    let r = c.args.run.now in
    let lines = flat_map (entry_lines (symbols_of r.plan) r.topology.names) (in_text_order r.options.order r.journal) in
    no_part g.S.Sink.writes c.args.sink.now (traced_lines r) (untraced r.options.trace lines c.if-not-run.true)

pub returns : goal.returns
returns g c =
    let r = c.args.run.now in
    let lines = flat_map (entry_lines (symbols_of r.plan) r.topology.names) in
    same_lines g.S.Sink.writes c.args.sink.now c.write_journal.new.sink c.write_journal.result (lines c.traced_journal.result.now) (traced_lines r)
    (ap lines c.traced_journal.ensures ∙ traced r.options.trace (lines (in_text_order r.options.order r.journal)) c.if-not-run.false) c.write_journal.ensures
