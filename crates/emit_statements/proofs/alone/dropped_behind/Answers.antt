use Rattle.std.proofs.Common.{Ok}
use Rattle.body_meaning.specs.Prelude.{reading}
use Rattle.body_code.specs.Prelude.{piece_behind}
use Rattle.emit_statements.proofs.Following.{dropped_writes, without_line}
use Rattle.emit_statements.proofs.Pushing.{same_behind}
use Rattle.emit_statements.proofs.alone.dropped_behind.Goals as goal

pub returns-in_err-left : goal.returns-in_err-left
returns-in_err-left c = without_line _ _ _ _ _ _ c.from_residual.ensures.1

pub returns : goal.returns
returns c =
    dropped_writes (piece_behind (reading c.args.s) c.args.n.now c.args.own.now.names c.args.inner.now c.args.suffixes.now) c.in_ok-left.left c.args.own.now c.set_aside.new.own c.set_aside.result
    c.args.code.now c.piece_behind.new.code c.set_aside.new.code
    (same_behind (reading c.args.s) c.args.n.now c.deref.result.now c.args.own.now.names c.args.inner.now c.args.suffixes.now (Ok c.in_ok-left.left) c.args.code.now c.piece_behind.new.code c.deref.ensures c.in_ok-left.ensures)
    c.set_aside.ensures
