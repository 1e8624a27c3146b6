use Rattle.std.proofs.Common.{◌∙◌, sym, ap, length}
use Rattle.run_journal.proofs.ListedLists.{length-between}
use Rattle.run_journal.proofs.lists.Lists.len.Goals as goal

pub returns : goal.returns
returns g c = c.len.ensures ∙ sym (length-between 0 c.self.inside.ends.kept c.self.inside.items.kept) ∙ ap (λ l. length l.lists) c.self.view_is
