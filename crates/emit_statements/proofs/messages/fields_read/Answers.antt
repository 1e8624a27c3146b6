use Rattle.action_code.specs.declared.instr.Instr.TheVariants as instr
use Rattle.body_meaning.specs.Prelude.{reading}
use Rattle.body_code.specs.Statements.{each_field}
use Rattle.emit_expressions.proofs.Adding.{added, adds_none}
use Rattle.emit_statements.proofs.Pushing.{on_ok_adds}
use Rattle.emit_statements.proofs.messages.fields_read.Goals as goal

pub returns-in-None : goal.returns-in-None
returns-in-None c = rw c.in-None.is (added _ tt _ _ (adds_none _))

pub returns-in-Some : goal.returns-in-Some
returns-in-Some c =
    rw c.in-Some.is (on_ok_adds (each_field instr.Outfield (reading c.args.s) c.in-Some.structure) c.each_read.result c.args.code.now c.each_read.new.code c.each_read.ensures)
