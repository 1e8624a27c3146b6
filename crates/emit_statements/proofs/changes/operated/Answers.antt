use Rattle.std.proofs.Common.{[], ◌∷◌}
use Rattle.action_code.specs.declared.instr.Instr.TheVariants as instr
use Rattle.emit_expressions.proofs.Adding.{added, adds_none}
use Rattle.emit_statements.proofs.Pushing.{on_ok_adds}
use Rattle.emit_statements.proofs.changes.operated.Goals as goal

pub returns-in-Some : goal.returns-in-Some
returns-in-Some c = rw c.in-Some.is (on_ok_adds (instr.Op c.in-Some.number 0 ∷ []) c.push.result c.args.code.now c.push.new.self c.push.ensures.ok)

pub returns-in-None : goal.returns-in-None
returns-in-None c = rw c.in-None.is (added _ tt _ _ (adds_none _))
