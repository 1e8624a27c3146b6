use Rattle.std.proofs.Common.{◌∙◌, ap, ◌++◌, ◌∷◌, [], ◌+◌, ◌-◌, length, refl, arith}
use Rattle.run_journal.specs.declared.entry.Entry.TheVariants as entry
use Rattle.run_journal.proofs.KeptRows.{entries-after, kept-after, less-room}
use Rattle.run_journal.proofs.writer.JournalWriter.push_turned.Goals as goal

pub invariant_of-self : goal.invariant_of-self
invariant_of-self c =
    let er = ap (λ j. j.room.entries) c.self.view_is in
    let nr = ap (λ j. j.room.numbers) c.self.view_is in
    let sr = ap (λ j. j.room.sents) c.self.view_is in
    kept-after c.self.inside.rows.kept c.push.new.self.kept c.self.inside.columns c.keep_turned-what.new.self (record { cycle = c.args.cycle; what = c.keep_turned-what.result })
    (entry.Turned c.args.cycle c.args.issued.now c.args.finding c.args.verdict) c.self.inside.sent c.self.inside.consumed c.self.inside.rows.room
    (record { entries = c.self.inside.entry_room; numbers = c.self.inside.number_room; sents = c.self.inside.sent_room })
    c.self.invariant c.keep_turned-what.ensures.extends c.keep_turned-what.ensures.fits c.keep_turned-what.ensures.lengths (c.keep_turned-what.ensures.entry c.args.cycle) c.push.ensures.after c.push.ensures.few
    (c.self.inside.sent + length c.args.issued.now) (c.self.inside.consumed) (length c.args.issued.now) (0) c.push.new.self.room
    (record { entries = c.self.inside.entry_room - 1; numbers = c.self.inside.number_room - length c.args.issued.now; sents = c.self.inside.sent_room })
    (omega (arith, er, nr, sr)) (omega (arith, er, nr, sr)) refl refl (omega (arith, er, nr, sr)) (omega (arith, er, nr, sr)) (omega (arith, er, nr, sr))
    (c.keep_turned-what.ensures.room (c.self.inside.entry_room - 1) (c.self.inside.number_room - length c.args.issued.now) (c.self.inside.sent_room)
    (less-room c.self.inside.entry_room c.self.inside.number_room c.self.inside.sent_room
    (c.self.inside.entry_room - 1 + 1) (c.self.inside.number_room - length c.args.issued.now + length c.args.issued.now) (c.self.inside.sent_room + 0)
    c.self.inside.columns c.self.invariant.columns_fit (omega (arith, er, nr, sr)) (omega (arith, er, nr, sr)) (omega (arith, er, nr, sr))))

pub returns-clause-entries : goal.returns-clause-entries
returns-clause-entries c =
    entries-after c.self.inside.rows.kept c.push.new.self.kept c.self.inside.columns c.keep_turned-what.new.self (record { cycle = c.args.cycle; what = c.keep_turned-what.result })
    (entry.Turned c.args.cycle c.args.issued.now c.args.finding c.args.verdict) c.self.inside.sent c.self.inside.consumed c.self.inside.rows.room
    (record { entries = c.self.inside.entry_room; numbers = c.self.inside.number_room; sents = c.self.inside.sent_room })
    c.self.invariant c.keep_turned-what.ensures.extends c.keep_turned-what.ensures.fits c.keep_turned-what.ensures.lengths (c.keep_turned-what.ensures.entry c.args.cycle) c.push.ensures.after c.push.ensures.few
    ∙ ap (λ j. j.entries ++ (entry.Turned c.args.cycle c.args.issued.now c.args.finding c.args.verdict) ∷ []) c.self.view_is
