use Rattle.std.proofs.Common.{◌≡◌, List, subst}
use Rattle.body_meaning.specs.Prelude.{reading}
use Rattle.body_code.specs.declared.left.NameAt.{NameAt}
use Rattle.body_code.specs.Prelude.{spot_of}
use Rattle.emit_expressions.specs.Prelude.{spot_code}
use Rattle.emit_statements.proofs.ChangeSteps.{assigned_writes}
use Rattle.emit_statements.proofs.Following.{without_line}
use Rattle.emit_statements.proofs.Pushing.{named_piece}
use Rattle.emit_statements.proofs.changes.assigned.Goals as goal

pub returns-in_err-spot : goal.returns-in_err-spot
returns-in_err-spot c = λ ending. without_line _ _ _ _ _ _ c.from_residual.ensures.1

pub returns-in_err-piece : goal.returns-in_err-piece
returns-in_err-piece c = λ ending. without_line _ _ _ _ _ _ c.from_residual-in_err-piece.ensures.1

pub returns : goal.returns
returns c = λ ending.
    let s = reading c.args.s in
    assigned_writes s c.args.n.now ending c.args.place.now c.args.e.now c.args.own.now c.assigned_at.new.own
    (spot_code s c.args.n.now c.args.own.now.names c.in_ok-spot.spot) c.kind_at-kind.result c.assigned_at.result c.args.code.now c.piece.new.code c.assigned_at.new.code
    (subst (λ (names : List NameAt). spot_code s c.args.n.now names c.in_ok-spot.spot ≡ spot_of s c.args.n.now names c.args.place.now) c.deref.ensures c.in_ok-spot.ensures)
    (c.kind_at-kind.ensures s c.args.n.now c.args.own.now.names)
    (named_piece s c.args.n.now c.deref-2.result.now c.args.own.now.names c.kind_at-kind.result c.args.e.now c.in_ok-piece.field-0 c.args.code.now c.piece.new.code c.deref-2.ensures c.in_ok-piece.ensures)
    c.assigned_at.ensures
