use Rattle.std.proofs.Common.{[], ◌∷◌, ◌++◌, true, false, ap, refl, append_assoc, ◌∙◌}
use Rattle.std.specs.Option.{option_copied}
use Rattle.trace_print.specs.Prelude.{spaced, event_word, machine_word, next_word, state_word, action_words, row_line}
use Rattle.trace_print.proofs.Adding.{both_added, line_made, line_not_made, same_line}
use Rattle.trace_print.proofs.RowParts.{in_two_parts}
use Rattle.trace_print.proofs.rows.write_row.Goals as goal

pub returns-then-not-begin_line : goal.returns-then-not-begin_line
returns-then-not-begin_line g c =
    let m = option_copied c.args.m in
    let row = c.args.row.now in
    let tail = spaced (action_words m row.actions) ++ 10 ∷ [] in
    let begun = c.machine_word.result.now ++ spaced (c.state_word.result.now ∷ c.event_word.result.now ∷ c.next_word.result.now ∷ []) in
    same_line g.S.Sink.writes c.args.sink.now c.begin_line.new.sink false (begun ++ tail) (row_line c.args.symbols.now m row)
    (in_two_parts c.machine_word.result.now (machine_word m) c.state_word.result.now (state_word c.args.symbols.now m row.state) c.event_word.result.now (event_word c.args.symbols.now m row.event) c.next_word.result.now (next_word c.args.symbols.now m row.next) (action_words m row.actions) (action_words m row.actions)
    c.machine_word.ensures c.state_word.ensures c.event_word.ensures c.next_word.ensures refl)
    (line_not_made g.S.Sink.writes c.args.sink.now c.begin_line.new.sink c.new-line.result.items c.begin_line.new.line.items begun tail c.new-line.ensures c.if-not-begin_line.ensures)

pub returns-then-not-add_actions : goal.returns-then-not-add_actions
returns-then-not-add_actions g c =
    let m = option_copied c.args.m in
    let row = c.args.row.now in
    let line = row_line c.args.symbols.now m row in
    let words = action_words m c.deref.result.now in
    let begun = c.machine_word.result.now ++ spaced (c.state_word.result.now ∷ c.event_word.result.now ∷ c.next_word.result.now ∷ []) in
    same_line g.S.Sink.writes c.args.sink.now c.add_actions.new.sink false ((begun ++ spaced words) ++ 10 ∷ []) line
    (append_assoc begun (spaced words) (10 ∷ []) ∙ in_two_parts c.machine_word.result.now (machine_word m) c.state_word.result.now (state_word c.args.symbols.now m row.state) c.event_word.result.now (event_word c.args.symbols.now m row.event) c.next_word.result.now (next_word c.args.symbols.now m row.next) words (action_words m row.actions)
    c.machine_word.ensures c.state_word.ensures c.event_word.ensures c.next_word.ensures (ap (action_words m) c.deref.ensures))
    (line_not_made g.S.Sink.writes c.args.sink.now c.add_actions.new.sink c.new-line.result.items c.add_actions.new.line.items (begun ++ spaced words) (10 ∷ []) c.new-line.ensures
    (both_added g.S.Sink.writes c.args.sink.now c.begin_line.new.sink c.add_actions.new.sink c.new-line.result.items c.begin_line.new.line.items c.add_actions.new.line.items begun (spaced words) false c.if-not-begin_line.ensures c.if-not-add_actions.ensures))

pub returns : goal.returns
returns g c =
    let m = option_copied c.args.m in
    let row = c.args.row.now in
    let line = row_line c.args.symbols.now m row in
    let words = action_words m c.deref.result.now in
    let begun = c.machine_word.result.now ++ spaced (c.state_word.result.now ∷ c.event_word.result.now ∷ c.next_word.result.now ∷ []) in
    same_line g.S.Sink.writes c.args.sink.now c.end_line.new.sink c.end_line.result ((begun ++ spaced words) ++ 10 ∷ []) line
    (append_assoc begun (spaced words) (10 ∷ []) ∙ in_two_parts c.machine_word.result.now (machine_word m) c.state_word.result.now (state_word c.args.symbols.now m row.state) c.event_word.result.now (event_word c.args.symbols.now m row.event) c.next_word.result.now (next_word c.args.symbols.now m row.next) words (action_words m row.actions)
    c.machine_word.ensures c.state_word.ensures c.event_word.ensures c.next_word.ensures (ap (action_words m) c.deref.ensures))
    (line_made g.S.Sink.writes c.args.sink.now c.add_actions.new.sink c.end_line.new.sink c.new-line.result.items c.add_actions.new.line.items (begun ++ spaced words) (10 ∷ []) c.end_line.result c.new-line.ensures
    (both_added g.S.Sink.writes c.args.sink.now c.begin_line.new.sink c.add_actions.new.sink c.new-line.result.items c.begin_line.new.line.items c.add_actions.new.line.items begun (spaced words) true c.if-not-begin_line.ensures c.if-not-add_actions.ensures)
    c.end_line.ensures)
