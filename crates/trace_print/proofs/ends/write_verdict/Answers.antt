use Rattle.std.proofs.Common.{[], ◌∷◌, ◌++◌, false, map, append_assoc, true, ◌∙◌}
use Rattle.trace_print.specs.Prelude.{verdict_words, line_of, spaced, word_bytes}
use Rattle.trace_print.proofs.Adding.{both_added, line_made, line_not_made, same_line}
use Rattle.trace_print.proofs.LineParts.{line_in_parts}
use Rattle.trace_print.proofs.ends.write_verdict.Goals as goal

pub returns-then-not-begin_line : goal.returns-then-not-begin_line
returns-then-not-begin_line g c =
    let first = c.args.first.now in
    let words = map word_bytes c.args.others.now in
    let last = verdict_words c.args.names.now c.args.verdict.now in
    let tail = spaced last ++ 10 ∷ [] in
    let begun = first ++ spaced words in
    same_line g.S.Sink.writes c.args.sink.now c.begin_line.new.sink false (begun ++ tail) (line_of (first ∷ (words ++ last))) (line_in_parts first words last)
    (line_not_made g.S.Sink.writes c.args.sink.now c.begin_line.new.sink c.new-line.result.items c.begin_line.new.line.items begun tail c.new-line.ensures c.if-not-begin_line.ensures)

pub returns-then-not-add_verdict : goal.returns-then-not-add_verdict
returns-then-not-add_verdict g c =
    let first = c.args.first.now in
    let words = map word_bytes c.args.others.now in
    let last = verdict_words c.args.names.now c.args.verdict.now in
    let begun = first ++ spaced words in
    same_line g.S.Sink.writes c.args.sink.now c.add_verdict.new.sink false ((begun ++ spaced last) ++ 10 ∷ []) (line_of (first ∷ (words ++ last)))
    (append_assoc begun (spaced last) (10 ∷ []) ∙ line_in_parts first words last)
    (line_not_made g.S.Sink.writes c.args.sink.now c.add_verdict.new.sink c.new-line.result.items c.add_verdict.new.line.items (begun ++ spaced last) (10 ∷ []) c.new-line.ensures
    (both_added g.S.Sink.writes c.args.sink.now c.begin_line.new.sink c.add_verdict.new.sink c.new-line.result.items c.begin_line.new.line.items c.add_verdict.new.line.items begun (spaced last) false c.if-not-begin_line.ensures c.if-not-add_verdict.ensures))

pub returns : goal.returns
returns g c =
    let first = c.args.first.now in
    let words = map word_bytes c.args.others.now in
    let last = verdict_words c.args.names.now c.args.verdict.now in
    let begun = first ++ spaced words in
    same_line g.S.Sink.writes c.args.sink.now c.end_line.new.sink c.end_line.result ((begun ++ spaced last) ++ 10 ∷ []) (line_of (first ∷ (words ++ last)))
    (append_assoc begun (spaced last) (10 ∷ []) ∙ line_in_parts first words last)
    (line_made g.S.Sink.writes c.args.sink.now c.add_verdict.new.sink c.end_line.new.sink c.new-line.result.items c.add_verdict.new.line.items (begun ++ spaced last) (10 ∷ []) c.end_line.result c.new-line.ensures
    (both_added g.S.Sink.writes c.args.sink.now c.begin_line.new.sink c.add_verdict.new.sink c.new-line.result.items c.begin_line.new.line.items c.add_verdict.new.line.items begun (spaced last) true c.if-not-begin_line.ensures c.if-not-add_verdict.ensures)
    c.end_line.ensures)
