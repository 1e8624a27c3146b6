use Rattle.emit_expressions.proofs.operators.leaf.Goals as goal

pub returns-in-Member : goal.returns-in-Member
returns-in-Member c = rw (c.in-Member.is, ← c.deref-in-Member.ensures, ← c.deref-in-Member-2.ensures) c.member_pushed.ensures
