use Rattle.std.proofs.Common.{◌∷◌, ◌∙◌, [], ap}
use Rattle.std.proofs.lemmas.Result.{on_ok_weaker}
use Rattle.slicc_ast.specs.declared.tree.name.Name.{Name}
use Rattle.slicc_ast.specs.Machines.{names}
use Rattle.slicc_ast.specs.Prelude.{none, spans_in}
use Rattle.slicc_ast.proofs.SpansOfLists.{added_behind}
use Rattle.slicc_ast.proofs.SpansOfParts.{several_spans}
use Rattle.slicc_ast.proofs.node_spans.machine.add_names.Goals as goal

pub returns-in_ok-push-in-Several : goal.returns-in_ok-push-in-Several
returns-in_ok-push-in-Several c =
    on_ok_weaker c.add_each.result
    (λ after. added_behind (λ (n : Name). n.span ∷ []) c.args.spans.now (c.in-Several.span ∷ []) c.in-Several.names c.deref.result.now _ _ _
    c.in_ok-push-in-Several.ensures.ok c.deref.ensures after
    (ap (λ n. spans_in (names n none)) c.in-Several.is ∙ several_spans c.in-Several.names c.in-Several.span))
    c.add_each.ensures
