use Rattle.std.proofs.Common.{◌∙◌, ap, ◌++◌, ◌∷◌, [], ◌+◌, ◌-◌, refl, arith}
use Rattle.run_journal.specs.declared.entry.Entry.TheVariants as entry
use Rattle.run_journal.proofs.KeptRows.{entries-after, kept-after, less-room}
use Rattle.run_journal.proofs.writer.JournalWriter.push_ended.Goals as goal

pub invariant_of-self : goal.invariant_of-self
invariant_of-self c =
    let er = ap (λ j. j.room.entries) c.self.view_is in
    let nr = ap (λ j. j.room.numbers) c.self.view_is in
    let sr = ap (λ j. j.room.sents) c.self.view_is in
    kept-after c.self.inside.rows.kept c.push.new.self.kept c.self.inside.columns c.keep_ended-what.new.self (record { cycle = c.args.cycle; what = c.keep_ended-what.result })
    (entry.Ended c.args.cycle c.args.controller c.args.end) c.self.inside.sent c.self.inside.consumed c.self.inside.rows.room
    (record { entries = c.self.inside.entry_room; numbers = c.self.inside.number_room; sents = c.self.inside.sent_room })
    c.self.invariant c.keep_ended-what.ensures.extends c.keep_ended-what.ensures.fits c.keep_ended-what.ensures.lengths (c.keep_ended-what.ensures.entry c.args.cycle) c.push.ensures.after c.push.ensures.few
    (c.self.inside.sent) (c.self.inside.consumed) (0) (0) c.push.new.self.room
    (record { entries = c.self.inside.entry_room - 1; numbers = c.self.inside.number_room; sents = c.self.inside.sent_room })
    (omega (arith, er, nr, sr)) (omega (arith, er, nr, sr)) refl refl (omega (arith, er, nr, sr)) (omega (arith, er, nr, sr)) (omega (arith, er, nr, sr))
    (c.keep_ended-what.ensures.room (c.self.inside.entry_room - 1) (c.self.inside.number_room) (c.self.inside.sent_room)
    (less-room c.self.inside.entry_room c.self.inside.number_room c.self.inside.sent_room
    (c.self.inside.entry_room - 1 + 1) (c.self.inside.number_room + 0) (c.self.inside.sent_room + 0)
    c.self.inside.columns c.self.invariant.columns_fit (omega (arith, er, nr, sr)) (omega (arith, er, nr, sr)) (omega (arith, er, nr, sr))))

pub returns-clause-entries : goal.returns-clause-entries
returns-clause-entries c =
    entries-after c.self.inside.rows.kept c.push.new.self.kept c.self.inside.columns c.keep_ended-what.new.self (record { cycle = c.args.cycle; what = c.keep_ended-what.result })
    (entry.Ended c.args.cycle c.args.controller c.args.end) c.self.inside.sent c.self.inside.consumed c.self.inside.rows.room
    (record { entries = c.self.inside.entry_room; numbers = c.self.inside.number_room; sents = c.self.inside.sent_room })
    c.self.invariant c.keep_ended-what.ensures.extends c.keep_ended-what.ensures.fits c.keep_ended-what.ensures.lengths (c.keep_ended-what.ensures.entry c.args.cycle) c.push.ensures.after c.push.ensures.few
    ∙ ap (λ j. j.entries ++ (entry.Ended c.args.cycle c.args.controller c.args.end) ∷ []) c.self.view_is
