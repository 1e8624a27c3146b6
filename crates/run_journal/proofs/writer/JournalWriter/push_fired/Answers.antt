use Rattle.std.proofs.Common.{◌∙◌, ap, ◌++◌, ◌∷◌, [], ◌+◌, ◌-◌, length, refl, arith}
use Rattle.std.proofs.lemmas.List.{length-map}
use Rattle.ruby_value.specs.declared.message.Sent.{Sent}
use Rattle.run_journal.specs.Prelude.{fired_of, numbers_in}
use Rattle.run_journal.proofs.KeptRows.{entries-after, kept-after, less-room}
use Rattle.run_journal.proofs.writer.JournalWriter.push_fired.Goals as goal

pub invariant_of-self : goal.invariant_of-self
invariant_of-self c =
    let er = ap (λ j. j.room.entries) c.self.view_is in
    let nr = ap (λ j. j.room.numbers) c.self.view_is in
    let sr = ap (λ j. j.room.sents) c.self.view_is in
    kept-after c.self.inside.rows.kept c.push.new.self.kept c.self.inside.columns c.keep_fired-what.new.self (record { cycle = c.args.cycle; what = c.keep_fired-what.result })
    (fired_of c.args.cycle c.args.controller c.args.note c.args.lists) c.self.inside.sent c.self.inside.consumed c.self.inside.rows.room
    (record { entries = c.self.inside.entry_room; numbers = c.self.inside.number_room; sents = c.self.inside.sent_room })
    c.self.invariant c.keep_fired-what.ensures.extends c.keep_fired-what.ensures.fits c.keep_fired-what.ensures.lengths (c.keep_fired-what.ensures.entry c.args.cycle) c.push.ensures.after c.push.ensures.few
    (c.self.inside.sent + length c.args.lists.sent.now) (c.self.inside.consumed + length c.args.lists.consumed.now) (length c.args.lists.sent.now) (length c.args.lists.consumed.now) c.push.new.self.room
    (record { entries = c.self.inside.entry_room - 1; numbers = c.self.inside.number_room - c.numbers.result; sents = c.self.inside.sent_room - length c.args.lists.sent.now })
    (omega (arith, er, nr, sr)) (omega (arith, er, nr, sr)) (omega (arith, length-map c.args.lists.sent.now (λ (s : Sent). s.number))) refl (omega (arith, er, nr, sr)) (omega (arith, er, nr, sr)) (omega (arith, er, nr, sr))
    (c.keep_fired-what.ensures.room (c.self.inside.entry_room - 1) (c.self.inside.number_room - c.numbers.result) (c.self.inside.sent_room - length c.args.lists.sent.now)
    (less-room c.self.inside.entry_room c.self.inside.number_room c.self.inside.sent_room
    (c.self.inside.entry_room - 1 + 1) (c.self.inside.number_room - c.numbers.result + numbers_in c.args.lists) (c.self.inside.sent_room - length c.args.lists.sent.now + length c.args.lists.sent.now)
    c.self.inside.columns c.self.invariant.columns_fit (omega (arith, er, nr, sr)) (omega (arith, er, nr, sr)) (omega (arith, er, nr, sr))))

pub returns-clause-entries : goal.returns-clause-entries
returns-clause-entries c =
    entries-after c.self.inside.rows.kept c.push.new.self.kept c.self.inside.columns c.keep_fired-what.new.self (record { cycle = c.args.cycle; what = c.keep_fired-what.result })
    (fired_of c.args.cycle c.args.controller c.args.note c.args.lists) c.self.inside.sent c.self.inside.consumed c.self.inside.rows.room
    (record { entries = c.self.inside.entry_room; numbers = c.self.inside.number_room; sents = c.self.inside.sent_room })
    c.self.invariant c.keep_fired-what.ensures.extends c.keep_fired-what.ensures.fits c.keep_fired-what.ensures.lengths (c.keep_fired-what.ensures.entry c.args.cycle) c.push.ensures.after c.push.ensures.few
    ∙ ap (λ j. j.entries ++ (fired_of c.args.cycle c.args.controller c.args.note c.args.lists) ∷ []) c.self.view_is
