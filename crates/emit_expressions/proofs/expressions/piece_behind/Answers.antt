use Rattle.std.proofs.Common.{None}
use Rattle.body_meaning.specs.Prelude.{reading}
use Rattle.body_code.specs.Prelude.{piece, suffixed_by}
use Rattle.emit_expressions.proofs.Adding.{without_memory, writes_then}
use Rattle.emit_expressions.proofs.expressions.piece_behind.Goals as goal

pub returns-in_err-left : goal.returns-in_err-left
returns-in_err-left c = without_memory _ _ _ _ _ c.from_residual.ensures.1

pub returns : goal.returns
returns c =
    writes_then (piece (reading c.args.s) c.args.n.now c.args.names.now None c.args.inner.now)
    (λ l. suffixed_by (reading c.args.s) c.args.n.now c.args.names.now l c.args.suffixes.now) c.in_ok-left.left c.suffixed_all.result _ _ _
    c.in_ok-left.ensures c.suffixed_all.ensures
