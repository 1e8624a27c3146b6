use Rattle.ruby_value.proofs.Entries.{reordered}
use Rattle.ruby_value.proofs.line_map.LineMap.reserve.Goals as goal

pub returns-clause-same : goal.returns-clause-same
returns-clause-same g c = rw (← c.self.view_is) (reordered _ _ c.reserve.ensures.entries.2)
