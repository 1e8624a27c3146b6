use Rattle.std.proofs.Common.{sym, ◌∙◌}
use Rattle.ruby_value.proofs.Entries.{get_entries, removed}
use Rattle.ruby_value.proofs.line_map.LineMap.remove.Goals as goal

pub returns-clause-before : goal.returns-clause-before
returns-clause-before g c = rw (← c.self.view_is) (c.remove.ensures.value ∙ sym (get_entries _ _))

pub returns-clause-after : goal.returns-clause-after
returns-clause-after g c = rw (← c.self.view_is) (removed _ _ _ c.remove.ensures.updates.0)
