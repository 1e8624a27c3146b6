use Rattle.std.proofs.Common.{◌∙◌, ◌≤◌, ap, arith}
use Rattle.run_journal.proofs.KeptRows.{entries-still, kept-still, less-room}
use Rattle.run_journal.proofs.writer.JournalWriter.reserve.Goals as goal

pub invariant_of-self-in_err-reserve-2 : goal.invariant_of-self-in_err-reserve-2
invariant_of-self-in_err-reserve-2 c =
    kept-still c.self.inside.rows.kept c.reserve.new.self.kept c.self.inside.columns c.reserve-2.new.self c.self.inside.sent c.self.inside.consumed c.self.inside.rows.room _
    c.self.invariant c.reserve-2.ensures.extends c.reserve-2.ensures.lengths c.reserve.ensures.same c.reserve.new.self.room _ (omega arith)
    (c.reserve-2.ensures.kept _ _ _ c.self.invariant.columns_fit)

pub returns-in_err-reserve-2-clause-entries : goal.returns-in_err-reserve-2-clause-entries
returns-in_err-reserve-2-clause-entries c =
    entries-still c.self.inside.rows.kept c.reserve.new.self.kept c.self.inside.columns c.reserve-2.new.self c.self.inside.sent c.self.inside.consumed c.self.inside.rows.room _
    c.self.invariant c.reserve-2.ensures.extends c.reserve-2.ensures.lengths c.reserve.ensures.same
    ∙ ap (λ j. j.entries) c.self.view_is

pub invariant_of-self-2 : goal.invariant_of-self-2
invariant_of-self-2 c =
    kept-still c.self.inside.rows.kept c.reserve.new.self.kept c.self.inside.columns c.reserve-2.new.self c.self.inside.sent c.self.inside.consumed c.self.inside.rows.room _
    c.self.invariant c.reserve-2.ensures.extends c.reserve-2.ensures.lengths c.reserve.ensures.same c.reserve.new.self.room _ (omega arith)
    (less-room _ _ _ _ _ _ c.reserve-2.new.self c.entry_room.ensures.fits (omega arith) (omega arith) (omega arith))

pub returns-clause-entries : goal.returns-clause-entries
returns-clause-entries c =
    entries-still c.self.inside.rows.kept c.reserve.new.self.kept c.self.inside.columns c.reserve-2.new.self c.self.inside.sent c.self.inside.consumed c.self.inside.rows.room _
    c.self.invariant c.reserve-2.ensures.extends c.reserve-2.ensures.lengths c.reserve.ensures.same
    ∙ ap (λ j. j.entries) c.self.view_is

pub returns-clause-ok : goal.returns-clause-ok
returns-clause-ok c =
    let most : c.args.entries ≤ c.entry_room.result = c.entry_room.ensures.most c.args.entries c.args.numbers c.args.sents c.in_ok-reserve-2.ensures.ok in
    let all = c.in_ok-reserve-2.ensures.ok in
    record {
      entries_fit = omega (arith, c.in_ok-reserve.ensures.ok);
      numbers_fit = omega (arith, all.numbers_fit);
      sents_fit = omega (arith, all.sents_fit);
    }

pub returns-clause-no_less : goal.returns-clause-no_less
returns-clause-no_less c =
    let er = ap (λ j. j.room.entries) c.self.view_is in
    let nr = ap (λ j. j.room.numbers) c.self.view_is in
    let sr = ap (λ j. j.room.sents) c.self.view_is in
    let still = c.reserve-2.ensures.kept c.self.inside.entry_room c.self.inside.number_room c.self.inside.sent_room c.self.invariant.columns_fit in
    let most : c.self.inside.entry_room ≤ c.entry_room.result = c.entry_room.ensures.most c.self.inside.entry_room c.self.inside.number_room c.self.inside.sent_room still in
    record {
      entries_left = omega (arith, er);
      numbers_left = omega (arith, nr, still.numbers_fit);
      sents_left = omega (arith, sr, still.sents_fit);
    }
