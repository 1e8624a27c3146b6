use Rattle.std.proofs.Common.{None}
use Rattle.body_meaning.specs.Prelude.{reading}
use Rattle.emit_statements.specs.Prelude.{ending_of}
use Rattle.emit_statements.proofs.Following.{without_line}
use Rattle.emit_statements.proofs.PlainSteps.{asserted_writes}
use Rattle.emit_statements.proofs.Pushing.{named_piece}
use Rattle.emit_statements.proofs.plain.asserted.Goals as goal

pub returns-in_err-piece : goal.returns-in_err-piece
returns-in_err-piece c = without_line _ _ _ _ _ _ c.from_residual.ensures.1

pub returns-in_err-push : goal.returns-in_err-push
returns-in_err-push c = without_line _ _ _ _ _ _ c.from_residual-in_err-push.ensures.1

pub returns-in_err-test : goal.returns-in_err-test
returns-in_err-test c = without_line _ _ _ _ _ _ c.from_residual-in_err-test.ensures.1

pub returns-in_err-push-2 : goal.returns-in_err-push-2
returns-in_err-push-2 c = without_line _ _ _ _ _ _ c.from_residual-in_err-push-2.ensures.1

pub returns-in_err-set_unless : goal.returns-in_err-set_unless
returns-in_err-set_unless c = without_line _ _ _ _ _ _ c.from_residual-in_err-set_unless.ensures.1

pub returns : goal.returns
returns c =
    asserted_writes (reading c.args.s) c.args.n.now (ending_of c.args.ending) c.args.condition.now c.args.own.now c.in_ok-test.test
    c.args.code.now c.piece.new.code c.push.new.self c.hole.new.code c.push-2.new.self c.set_unless.new.code
    (named_piece (reading c.args.s) c.args.n.now c.deref.result.now c.args.own.now.names None c.args.condition.now c.in_ok-piece.field-0 c.args.code.now c.piece.new.code c.deref.ensures c.in_ok-piece.ensures)
    c.in_ok-push.ensures.ok c.in_ok-test.ensures.at c.in_ok-test.ensures.added c.in_ok-push-2.ensures.ok c.in_ok-set_unless.ensures
