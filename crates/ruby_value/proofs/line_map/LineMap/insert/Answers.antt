use Rattle.std.proofs.Common.{sym, ◌∙◌}
use Rattle.ruby_value.proofs.Entries.{get_entries, inserted}
use Rattle.ruby_value.proofs.line_map.LineMap.insert.Goals as goal
use Rattle.ruby_value.proofs.line_map.LineMap.insert.Goals.{in-Ok, in-Err}

pub returns-clause-before : goal.returns-clause-before
returns-clause-before g c = elim c.match-insert.branch [
  | in-Ok w ↦ rw (w.result-is, ← c.self.view_is) (w.in-Ok.ensures.old ∙ sym (get_entries _ _))
  | in-Err w ↦ rw w.result-is tt
]

pub returns-clause-after : goal.returns-clause-after
returns-clause-after g c = elim c.match-insert.branch [
  | in-Ok w ↦ rw (w.result-is, ← c.self.view_is) (inserted _ _ _ _ w.in-Ok.ensures.updates.0)
  | in-Err w ↦ rw w.result-is tt
]

pub returns-clause-there_already : goal.returns-clause-there_already
returns-clause-there_already g c = elim c.match-insert.branch [
  | in-Ok w ↦ rw w.result-is tt
  | in-Err w ↦ rw (w.result-is, ← c.self.view_is) (get_entries _ _ ∙ w.in-Err.ensures.absent)
]
