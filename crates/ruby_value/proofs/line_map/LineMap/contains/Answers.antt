use Rattle.std.proofs.Common.{sym, ◌∙◌, ap, is_some}
use Rattle.ruby_value.proofs.Entries.{get_entries}
use Rattle.ruby_value.proofs.line_map.LineMap.contains.Goals as goal

pub returns : goal.returns
returns g c = rw (← c.self.view_is) (c.contains_key.ensures ∙ ap is_some (sym (get_entries _ _)))
