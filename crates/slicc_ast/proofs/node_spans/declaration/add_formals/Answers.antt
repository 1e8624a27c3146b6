use Rattle.std.proofs.lemmas.Result.{on_ok_weaker}
use Rattle.slicc_ast.specs.Prelude.{spans_of}
use Rattle.slicc_ast.specs.Declarations.{formal}
use Rattle.slicc_ast.proofs.SpansOfLists.{added_list}
use Rattle.slicc_ast.proofs.SpansOfParts.{formal_list_spans}
use Rattle.slicc_ast.proofs.node_spans.declaration.add_formals.Goals as goal

pub returns : goal.returns
returns c =
    on_ok_weaker c.add_each.result
    (λ after. added_list (λ x. spans_of (formal x)) c.args.spans.now c.args.f.now.span c.args.f.now.items c.deref.result.now _ _ _
    c.in_ok-push.ensures.ok c.deref.ensures after (formal_list_spans c.args.f.now.items))
    c.add_each.ensures
