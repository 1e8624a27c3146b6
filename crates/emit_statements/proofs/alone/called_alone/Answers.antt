use Rattle.emit_statements.proofs.alone.called_alone.Goals as goal

pub returns-in-None : goal.returns-in-None
returns-in-None c = rw c.in-None.is c.built_in_alone.ensures
