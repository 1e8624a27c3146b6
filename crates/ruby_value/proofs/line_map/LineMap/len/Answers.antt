use Rattle.std.proofs.Common.{sym, ◌∙◌}
use Rattle.ruby_value.proofs.Entries.{len_of}
use Rattle.ruby_value.proofs.line_map.LineMap.len.Goals as goal

pub returns : goal.returns
returns g c = rw (← c.self.view_is) (c.len.ensures.len ∙ sym (len_of _ c.len.ensures.unique))
