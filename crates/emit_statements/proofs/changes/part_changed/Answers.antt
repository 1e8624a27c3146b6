use Rattle.std.proofs.Common.{[]}
use Rattle.action_code.specs.declared.instr.Instr.TheVariants as instr
use Rattle.body_meaning.specs.Prelude.{reading}
use Rattle.body_code.specs.Prelude.{arguments_by, ◌⨾◌}
use Rattle.emit_statements.specs.Prelude.{operated_by}
use Rattle.emit_statements.proofs.ChangeSteps.{around}
use Rattle.emit_statements.proofs.Following.{without_line}
use Rattle.emit_statements.proofs.Pushing.{named_change}
use Rattle.emit_statements.proofs.changes.part_changed.Goals as goal

pub returns-in_err-push : goal.returns-in_err-push
returns-in_err-push c = without_line _ _ _ _ _ _ c.from_residual.ensures.1

pub returns-in_err-change : goal.returns-in_err-change
returns-in_err-change c = without_line _ _ _ _ _ _ c.from_residual-in_err-change.ensures.1

pub returns-in_err-push-2 : goal.returns-in_err-push-2
returns-in_err-push-2 c = without_line _ _ _ _ _ _ c.from_residual-in_err-push-2.ensures.1

pub returns : goal.returns
returns c =
    around (instr.Outfield c.args.f.number) (instr.Setout c.args.f.number)
    (arguments_by (reading c.args.s) c.args.n.now c.args.own.now.names [] c.args.given.now ⨾ operated_by c.args.operation) c.args.own.now
    c.args.code.now c.push.new.self c.change.new.code c.push-2.new.self c.in_ok-push.ensures.ok
    (named_change (reading c.args.s) c.args.n.now c.deref.result.now c.args.own.now.names c.args.given.now (operated_by c.args.operation) c.in_ok-change.field-0 c.push.new.self c.change.new.code
    c.deref.ensures c.in_ok-change.ensures)
    c.in_ok-push-2.ensures.ok
