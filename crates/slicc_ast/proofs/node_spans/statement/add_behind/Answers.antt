use Rattle.std.proofs.lemmas.Result.{on_ok_weaker}
use Rattle.slicc_ast.specs.Prelude.{expr, spans_of}
use Rattle.slicc_ast.proofs.SpansOfLists.{added_both}
use Rattle.slicc_ast.proofs.node_spans.statement.add_behind.Goals as goal

pub returns : goal.returns
returns c =
    on_ok_weaker c.add_expr.result
    (added_both c.args.spans.now c.args.before.now (spans_of (expr c.args.value.now)) _ _ c.in_ok-append.ensures.ok)
    c.add_expr.ensures
