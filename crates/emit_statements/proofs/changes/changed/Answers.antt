use Rattle.std.proofs.Common.{◌≡◌, List, subst}
use Rattle.body_meaning.specs.Prelude.{reading}
use Rattle.body_code.specs.declared.left.NameAt.{NameAt}
use Rattle.body_code.specs.Prelude.{spot_with}
use Rattle.emit_expressions.specs.Prelude.{spot_code}
use Rattle.emit_statements.proofs.ChangeSteps.{changed_writes}
use Rattle.emit_statements.proofs.Following.{without_line}
use Rattle.emit_statements.proofs.changes.changed.Goals as goal

pub returns-in_err-spot : goal.returns-in_err-spot
returns-in_err-spot c = λ ending. without_line _ _ _ _ _ _ c.from_residual.ensures.1

pub returns : goal.returns
returns c = λ ending.
    let s = reading c.args.s in
    changed_writes s c.args.n.now ending c.args.inner.now c.args.before.now c.args.name.now c.args.given.now c.args.own.now c.changed_at.new.own
    (spot_code s c.args.n.now c.args.own.now.names c.in_ok-spot.spot) c.kind_at-kind.result c.call_at-operation.result c.changed_at.result c.args.code.now c.changed_at.new.code
    (subst (λ (names : List NameAt). spot_code s c.args.n.now names c.in_ok-spot.spot ≡ spot_with s c.args.n.now names c.args.inner.now c.args.before.now) c.deref.ensures c.in_ok-spot.ensures)
    (c.kind_at-kind.ensures s c.args.n.now c.args.own.now.names) c.call_at-operation.ensures c.changed_at.ensures
