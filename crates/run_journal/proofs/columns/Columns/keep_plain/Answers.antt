use Rattle.std.proofs.Common.{◌∙◌, ap}
use Rattle.run_journal.proofs.MoreColumns.{goes_on, stays}
use Rattle.run_journal.proofs.columns.Columns.keep_plain.Goals as goal

pub returns-clause-extends : goal.returns-clause-extends
returns-clause-extends c = record {
  fires = goes_on _ _ _ c.keep_fire.ensures.fires;
  numbers = goes_on _ _ _ (ap (λ n. n.lists) c.keep_fire.ensures.numbers ∙ c.push.ensures.after);
  sents = goes_on _ _ _ c.keep_fire.ensures.sents;
  stops = stays _ _ (ap (λ s. s.kept) c.keep_fire.ensures.stops);
  closings = stays _ _ (ap (λ s. s.kept) c.keep_fire.ensures.closings);
}
