use Rattle.std.proofs.Common.{rules, ◌≡◌, ◌∷◌, ◌++◌, ◌∙◌, ap, sym, append-nil}
use Rattle.std.proofs.lemmas.Result.{on_ok_weaker}
use Rattle.slicc_ast.specs.declared.tree.balanced.Part.TheViews.{the_lemmas}
use Rattle.slicc_ast.specs.Prelude.{balanced_list, spans_in}
use Rattle.slicc_ast.proofs.SpansOfLists.{added_all}
use Rattle.slicc_ast.proofs.SpansOfParts.{part_spans, balanced_list_spans, balanced_row_spans}
use Rattle.slicc_ast.proofs.node_spans.balanced.+balanced_spans.Goals as goal

pub add_balanced-returns : goal.add_balanced-returns
add_balanced-returns t c =
    added_all part_spans c.args.spans.now c.args.b.now.span c.args.b.now.parts c.as_slice-part-items.result.now c.loop-part.part-index _ _ _
    c.in_ok-push.ensures.ok c.as_slice-part-items.ensures c.loop-part-test.false c.loop-part.invariant (balanced_list_spans c.args.b.now.parts)

pub add_part-returns-in-Parentheses : goal.add_part-returns-in-Parentheses
add_part-returns-in-Parentheses t c =
    let same : part_spans c.args.p.now ≡ c.in-Parentheses.inner.span ∷ spans_in (balanced_list c.in-Parentheses.inner.parts) = search (rules, the_lemmas, balanced_row_spans, append-nil) in
    on_ok_weaker c.add_balanced.result (λ after. after ∙ ap (λ xs. c.args.spans.now ++ xs) (sym same)) c.add_balanced.ensures

pub add_part-returns-in-Brackets : goal.add_part-returns-in-Brackets
add_part-returns-in-Brackets t c =
    let same : part_spans c.args.p.now ≡ c.in-Brackets.inner.span ∷ spans_in (balanced_list c.in-Brackets.inner.parts) = search (rules, the_lemmas, balanced_row_spans, append-nil) in
    on_ok_weaker c.add_balanced-in-Brackets.result (λ after. after ∙ ap (λ xs. c.args.spans.now ++ xs) (sym same)) c.add_balanced-in-Brackets.ensures

pub add_part-returns-in-Braces : goal.add_part-returns-in-Braces
add_part-returns-in-Braces t c =
    let same : part_spans c.args.p.now ≡ c.in-Braces.inner.span ∷ spans_in (balanced_list c.in-Braces.inner.parts) = search (rules, the_lemmas, balanced_row_spans, append-nil) in
    on_ok_weaker c.add_balanced-in-Braces.result (λ after. after ∙ ap (λ xs. c.args.spans.now ++ xs) (sym same)) c.add_balanced-in-Braces.ensures
