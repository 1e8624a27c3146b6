use Rattle.std.proofs.Common.{◌<◌, ◌∙◌, ap, sym, subst, length, Some, slice_get}
use Rattle.run_journal.proofs.KeptRows.{row-there}
use Rattle.run_journal.proofs.journal.Journal.entry.Goals as goal

pub returns : goal.returns
returns c =
    ap (λ j. slice_get j c.args.place) (sym c.self.view_is)
    ∙ row-there c.self.inside.rows.kept c.self.inside.columns c.args.place c.at-row.result.now (c.at-row.ensures.value c.at-row.result.now)
    (subst (λ j. c.args.place < length j) (sym c.self.view_is) c.requires)
    ∙ ap Some (sym c.lend.ensures)
