use Rattle.std.proofs.Common.{None, Ok}
use Rattle.body_meaning.specs.Prelude.{reading}
use Rattle.body_code.specs.Prelude.{piece}
use Rattle.emit_statements.proofs.Following.{dropped_writes, without_line}
use Rattle.emit_statements.proofs.Pushing.{same_piece}
use Rattle.emit_statements.proofs.alone.dropped.Goals as goal

pub returns-in_err-left : goal.returns-in_err-left
returns-in_err-left c = without_line _ _ _ _ _ _ c.from_residual.ensures.1

pub returns : goal.returns
returns c =
    dropped_writes (piece (reading c.args.s) c.args.n.now c.args.own.now.names None c.args.e.now) c.in_ok-left.left c.args.own.now c.set_aside.new.own c.set_aside.result
    c.args.code.now c.piece.new.code c.set_aside.new.code
    (same_piece (reading c.args.s) c.args.n.now c.deref.result.now c.args.own.now.names None c.args.e.now (Ok c.in_ok-left.left) c.args.code.now c.piece.new.code c.deref.ensures c.in_ok-left.ensures)
    c.set_aside.ensures
