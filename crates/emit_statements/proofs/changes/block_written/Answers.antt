use Rattle.std.proofs.Common.{◌≡◌, List, None, rules, subst}
use Rattle.body_meaning.specs.Prelude.{reading}
use Rattle.body_code.specs.declared.left.NameAt.{NameAt}
use Rattle.body_code.specs.Prelude.{spot_of}
use Rattle.emit_expressions.specs.Prelude.{spot_code}
use Rattle.emit_statements.proofs.ChangeSteps.{written_back_writes}
use Rattle.emit_statements.proofs.Following.{without_line}
use Rattle.emit_statements.proofs.Pushing.{named_piece}
use Rattle.emit_statements.proofs.changes.block_written.Goals as goal

pub returns-in_err-piece : goal.returns-in_err-piece
returns-in_err-piece c = λ ending. without_line _ _ _ _ _ _ c.from_residual.ensures.1

pub returns-in_err-spot : goal.returns-in_err-spot
returns-in_err-spot c = λ ending. without_line _ _ _ _ _ _ c.from_residual-in_err-spot.ensures.1

pub returns : goal.returns
returns c = λ ending.
    let s = reading c.args.s in
    written_back_writes s c.args.n.now ending c.args.address.now c.args.block.now c.args.others.now c.args.own.now c.changed_at.new.own
    (spot_code s c.args.n.now c.args.own.now.names c.in_ok-spot.spot) c.write_callback-operation.result c.changed_at.result c.args.code.now c.piece.new.code c.changed_at.new.code
    (subst (λ (names : List NameAt). spot_code s c.args.n.now names c.in_ok-spot.spot ≡ spot_of s c.args.n.now names c.args.block.now) c.deref-2.ensures c.in_ok-spot.ensures)
    (search rules)
    (named_piece s c.args.n.now c.deref.result.now c.args.own.now.names None c.args.address.now c.in_ok-piece.field-0 c.args.code.now c.piece.new.code c.deref.ensures c.in_ok-piece.ensures)
    c.changed_at.ensures
