use Rattle.std.proofs.lemmas.Result.{on_ok_weaker}
use Rattle.slicc_ast.specs.Prelude.{symbol_spans}
use Rattle.slicc_ast.proofs.SpansOfLists.{added_declaration}
use Rattle.slicc_ast.proofs.SpansOfParts.{symbol_list_spans}
use Rattle.slicc_ast.proofs.node_spans.declaration.EnumerationSpanned.add_to.Goals as goal

pub returns : goal.returns
returns c =
    on_ok_weaker c.add_each.result
    (λ after. added_declaration symbol_spans c.args.spans.now c.args.self.now.span c.args.self.now.name.span c.args.self.now.pairs.span _ c.args.self.now.members c.deref.result.now _ _ _ _
    c.in_ok-append.ensures.ok c.in_ok-add_pairs.ensures c.deref.ensures after (symbol_list_spans c.args.self.now.members _))
    c.add_each.ensures
