use Rattle.std.proofs.Common.{sym, ◌∙◌}
use Rattle.ruby_value.proofs.Entries.{get_entries}
use Rattle.ruby_value.proofs.line_map.LineMap.get.Goals as goal

pub returns : goal.returns
returns g c = rw (← c.self.view_is) (c.get.ensures.value ∙ sym (get_entries _ _))
