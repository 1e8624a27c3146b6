use Rattle.std.proofs.Common.{List, subst}
use Rattle.slicc_ast.specs.declared.tree.expression.Expr.{Expr}
use Rattle.body_meaning.specs.Prelude.{reading}
use Rattle.body_code.specs.Prelude.{written_back}
use Rattle.emit_statements.specs.Prelude.{WritesLine}
use Rattle.emit_statements.proofs.ChangeSteps.{two_first}
use Rattle.emit_statements.proofs.changes.written_back.Goals as goal

pub returns-in-len2-up : goal.returns-in-len2-up
returns-in-len2-up c = λ ending.
    subst (λ (xs : List Expr). WritesLine (written_back (reading c.args.s) c.args.n.now ending xs c.args.own.now) c.block_written.result c.args.code.now c.block_written.new.code c.block_written.new.own)
    (two_first c.args.given.now c.address-item.result c.block-item.result c.in-len2-up.len_at_least c.address-item.is c.block-item.is)
    (c.block_written.ensures ending)
