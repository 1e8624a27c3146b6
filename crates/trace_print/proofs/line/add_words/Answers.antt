use Rattle.std.proofs.Common.{refl}
use Rattle.std.proofs.lemmas.List.{drop_more}
use Rattle.trace_print.specs.Prelude.{word_bytes}
use Rattle.trace_print.proofs.Adding.{no_word, word_cut, word_on}
use Rattle.trace_print.proofs.line.add_words.Goals as goal

pub loop-word-preserved : goal.loop-word-preserved
loop-word-preserved g c =
    let l = c.loop-word in
    λ rest whole last put. l.invariant rest whole last
    (word_on g.S.Sink.writes word_bytes c.args.words.now l.word-index _ l.sink c.add_spaced.new.sink last l.line.items c.add_spaced.new.line.items _ rest whole
    (drop_more c.args.words.now l.word-index _ c.loop-word-test.true) refl c.if-not-add_spaced.ensures put)

pub returns-then-not-add_spaced : goal.returns-then-not-add_spaced
returns-then-not-add_spaced g c =
    let l = c.loop-word in
    record {
      goes_on = tt;
      cut_off = λ rest. l.invariant rest _ _
          (word_cut g.S.Sink.writes word_bytes c.args.words.now l.word-index _ l.sink c.add_spaced.new.sink l.line.items c.add_spaced.new.line.items _ rest
          (drop_more c.args.words.now l.word-index _ c.loop-word-test.true) refl c.if-not-add_spaced.ensures);
    }

pub returns : goal.returns
returns g c =
    let l = c.loop-word in
    record {
      goes_on = λ rest whole last put. l.invariant rest whole last (no_word g.S.Sink.writes word_bytes c.args.words.now l.word-index l.sink last l.line.items rest whole c.loop-word-test.false put);
      cut_off = tt;
    }
