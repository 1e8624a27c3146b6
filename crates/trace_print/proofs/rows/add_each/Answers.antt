use Rattle.std.proofs.lemmas.List.{drop_more}
use Rattle.std.specs.Option.{option_copied}
use Rattle.trace_print.specs.Prelude.{action_word}
use Rattle.trace_print.proofs.Adding.{no_word, word_cut, word_on}
use Rattle.trace_print.proofs.rows.add_each.Goals as goal

pub loop-action-preserved : goal.loop-action-preserved
loop-action-preserved g c =
    let l = c.loop-action in
    λ rest whole last put. l.invariant rest whole last
    (word_on g.S.Sink.writes (action_word (option_copied c.args.m)) c.args.actions.now l.action-index _ l.sink c.add_spaced.new.sink last l.line.items c.add_spaced.new.line.items c.action_word.result.now rest whole
    (drop_more c.args.actions.now l.action-index _ c.loop-action-test.true) c.action_word.ensures c.if-not-add_spaced.ensures put)

pub returns-then-not-add_spaced : goal.returns-then-not-add_spaced
returns-then-not-add_spaced g c =
    let l = c.loop-action in
    record {
      goes_on = tt;
      cut_off = λ rest. l.invariant rest _ _
          (word_cut g.S.Sink.writes (action_word (option_copied c.args.m)) c.args.actions.now l.action-index _ l.sink c.add_spaced.new.sink l.line.items c.add_spaced.new.line.items c.action_word.result.now rest
          (drop_more c.args.actions.now l.action-index _ c.loop-action-test.true) c.action_word.ensures c.if-not-add_spaced.ensures);
    }

pub returns : goal.returns
returns g c =
    let l = c.loop-action in
    record {
      goes_on = λ rest whole last put. l.invariant rest whole last (no_word g.S.Sink.writes (action_word (option_copied c.args.m)) c.args.actions.now l.action-index l.sink last l.line.items rest whole c.loop-action-test.false put);
      cut_off = tt;
    }
