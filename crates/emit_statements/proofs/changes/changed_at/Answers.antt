use Rattle.std.proofs.Common.{refl, true}
use Rattle.body_meaning.specs.Prelude.{reading}
use Rattle.emit_statements.specs.Prelude.{operated_by}
use Rattle.emit_statements.proofs.Following.{line_wrote, without_line}
use Rattle.emit_statements.proofs.Pushing.{named_change}
use Rattle.emit_statements.proofs.changes.changed_at.Goals as goal

pub returns-in-Local : goal.returns-in-Local
returns-in-Local c = rw c.in-Local.is c.local_changed.ensures

pub returns-in-Part : goal.returns-in-Part
returns-in-Part c = rw c.in-Part.is c.part_changed.ensures

pub returns-in-Line : goal.returns-in-Line
returns-in-Line c = rw c.in-Line.is c.line_changed.ensures

pub returns-in_err-change-in-Nowhere : goal.returns-in_err-change-in-Nowhere
returns-in_err-change-in-Nowhere c = without_line _ _ _ _ _ _ c.from_residual.ensures.1

pub returns-in_ok-change-in-Nowhere : goal.returns-in_ok-change-in-Nowhere
returns-in_ok-change-in-Nowhere c =
    rw c.in-Nowhere.is (line_wrote _ true _ _ _ refl refl
    (named_change (reading c.args.s) c.args.n.now c.deref.result.now c.args.own.now.names c.args.given.now (operated_by c.args.operation) c.in_ok-change-in-Nowhere.field-0 c.args.code.now c.change.new.code
    c.deref.ensures c.in_ok-change-in-Nowhere.ensures))
