use Rattle.std.proofs.lemmas.Result.{on_ok_weaker}
use Rattle.slicc_ast.specs.Prelude.{spans_of}
use Rattle.slicc_ast.specs.Declarations.{pair}
use Rattle.slicc_ast.proofs.SpansOfLists.{added_list}
use Rattle.slicc_ast.proofs.SpansOfParts.{pair_list_spans}
use Rattle.slicc_ast.proofs.node_spans.declaration.add_pairs.Goals as goal

pub returns : goal.returns
returns c =
    on_ok_weaker c.add_each.result
    (λ after. added_list (λ x. spans_of (pair x)) c.args.spans.now c.args.p.now.span c.args.p.now.items c.deref.result.now _ _ _
    c.in_ok-push.ensures.ok c.deref.ensures after (pair_list_spans c.args.p.now.items))
    c.add_each.ensures
