use Rattle.std.proofs.Common.{[]}
use Rattle.body_meaning.specs.Prelude.{reading}
use Rattle.body_code.specs.Prelude.{arguments_by}
use Rattle.emit_expressions.proofs.Adding.{adds, not_added}
use Rattle.emit_statements.specs.Prelude.{operated_by}
use Rattle.emit_statements.proofs.ChangeSteps.{adds_last}
use Rattle.emit_statements.proofs.changes.change.Goals as goal

pub returns-in_err-arguments : goal.returns-in_err-arguments
returns-in_err-arguments c = not_added _ _ _ _ _ c.from_residual.ensures.1

pub returns : goal.returns
returns c =
    adds_last (arguments_by (reading c.args.s) c.args.n.now c.args.names.now [] c.args.given.now) (operated_by c.args.operation) c.operated.result
    c.args.code.now c.arguments.new.code c.operated.new.code (adds _ _ _ _ c.in_ok-arguments.ensures) c.operated.ensures
