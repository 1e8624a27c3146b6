use Rattle.std.proofs.Common.{◌≡◌, ◌++◌, ◌∷◌, [], inl, inr, sym, subst, ap, ◌∙◌}
use Rattle.std.specs.List.{flat_map}
use Rattle.std.proofs.lemmas.Result.{on_ok_weaker}
use Rattle.slicc_ast.proofs.SpansOfLists.{args_spans, added_all, added_after, added_alone, added_behind, added_both}
use Rattle.slicc_ast.proofs.SpansOfBoxes.{spans_of_Operation, spans_of_Postfix, spans_of_Not, spans_of_Negate, spans_of_IsValid, spans_of_IsInvalid, spans_of_Group, spans_of_Cast, spans_of_Call, spans_of_Method}
use Rattle.slicc_ast.specs.Prelude.{spans_of, expr, operand_spans, suffix_spans}
use Rattle.slicc_ast.specs.Expressions.{suffix}
use Rattle.slicc_ast.proofs.node_spans.expression.+expression_spans.Goals as goal

pub add_expr-returns-in_ok-append-in-Call : goal.add_expr-returns-in_ok-append-in-Call
add_expr-returns-in_ok-append-in-Call t c =
    on_ok_weaker c.add_args.result
    (added_after c.args.spans.now _ _ _ _ _ c.in_ok-append-in-Call.ensures.ok (ap (λ e. spans_of (expr e)) c.in-Call.is ∙ spans_of_Call c.in-Call.name c.in-Call.arguments c.in-Call.span))
    c.add_args.ensures

pub add_args-returns : goal.add_args-returns
add_args-returns t c =
    added_all (λ e. spans_of (expr e)) c.args.spans.now c.args.a.now.span c.args.a.now.items c.as_slice-item-items.result.now c.loop-item.item-index _ _ _
    c.in_ok-push.ensures.ok c.as_slice-item-items.ensures c.loop-item-test.false c.loop-item.invariant (args_spans c.args.a.now.items)

pub add_expr-returns-in_ok-add_expr-in-Operation : goal.add_expr-returns-in_ok-add_expr-in-Operation
add_expr-returns-in_ok-add_expr-in-Operation t c =
    let same : spans_of (expr c.args.e.now) ≡ (c.in-Operation.span ∷ spans_of (expr c.in-Operation.first)) ++ flat_map operand_spans c.in-Operation.others = ap (λ e. spans_of (expr e)) c.in-Operation.is ∙ spans_of_Operation c.in-Operation.first c.in-Operation.others c.in-Operation.span in
    let moved = subst (λ v. spans_of (expr c.args.e.now) ≡ (c.in-Operation.span ∷ spans_of (expr v)) ++ flat_map operand_spans c.in-Operation.others) (sym c.get.ensures) same in
    on_ok_weaker c.add_operands.result
    (λ after. added_behind operand_spans c.args.spans.now (c.in-Operation.span ∷ spans_of (expr c.get.result.now)) c.in-Operation.others _ _ _ _
    (added_both c.args.spans.now (c.in-Operation.span ∷ []) _ _ _ c.in_ok-push-in-Operation.ensures.ok c.in_ok-add_expr-in-Operation.ensures) c.deref.ensures after moved)
    c.add_operands.ensures

pub add_expr-returns-in_ok-add_expr-in-Postfix : goal.add_expr-returns-in_ok-add_expr-in-Postfix
add_expr-returns-in_ok-add_expr-in-Postfix t c =
    let same : spans_of (expr c.args.e.now) ≡ (c.in-Postfix.span ∷ spans_of (expr c.in-Postfix.value)) ++ flat_map suffix_spans c.in-Postfix.suffixes = ap (λ e. spans_of (expr e)) c.in-Postfix.is ∙ spans_of_Postfix c.in-Postfix.value c.in-Postfix.suffixes c.in-Postfix.span in
    let moved = subst (λ v. spans_of (expr c.args.e.now) ≡ (c.in-Postfix.span ∷ spans_of (expr v)) ++ flat_map suffix_spans c.in-Postfix.suffixes) (sym c.get-in-Postfix.ensures) same in
    on_ok_weaker c.add_suffixes.result
    (λ after. added_behind suffix_spans c.args.spans.now (c.in-Postfix.span ∷ spans_of (expr c.get-in-Postfix.result.now)) c.in-Postfix.suffixes _ _ _ _
    (added_both c.args.spans.now (c.in-Postfix.span ∷ []) _ _ _ c.in_ok-push-in-Postfix.ensures.ok c.in_ok-add_expr-in-Postfix.ensures) c.deref-in-Postfix.ensures after moved)
    c.add_suffixes.ensures

pub add_suffix-returns-in_ok-append-in-Method : goal.add_suffix-returns-in_ok-append-in-Method
add_suffix-returns-in_ok-append-in-Method t c =
    on_ok_weaker c.add_args.result
    (added_after c.args.spans.now _ _ _ _ _ c.in_ok-append-in-Method.ensures.ok (ap (λ s. spans_of (suffix s)) c.in-Method.is ∙ spans_of_Method c.in-Method.name c.in-Method.arguments c.in-Method.span))
    c.add_args.ensures

pub add_expr-returns-in_ok-append-in-Cast : goal.add_expr-returns-in_ok-append-in-Cast
add_expr-returns-in_ok-append-in-Cast t c =
    on_ok_weaker c.add_expr-in-Cast.result
    (added_after c.args.spans.now _ _ _ _ _ c.in_ok-append-in-Cast.ensures.ok
    (ap (λ e. spans_of (expr e)) c.in-Cast.is ∙ spans_of_Cast c.in-Cast.target c.in-Cast.mode c.in-Cast.value c.in-Cast.span
    ∙ ap (λ v. c.in-Cast.span ∷ c.in-Cast.target.span ∷ spans_of (expr v)) (sym c.get-in-Cast.ensures)))
    c.add_expr-in-Cast.ensures

pub add_expr-returns-in_ok-push-in-Not : goal.add_expr-returns-in_ok-push-in-Not
add_expr-returns-in_ok-push-in-Not t c =
    let inner = c.in-Not.inner in
    let span = c.in-Not.span in
    let same : spans_of (expr c.args.e.now) ≡ span ∷ spans_of (expr inner) =
    elim c.in-Not.is [
      | inl e ↦ ap (λ x. spans_of (expr x)) e ∙ spans_of_Not inner span
      | inr (inl e) ↦ ap (λ x. spans_of (expr x)) e ∙ spans_of_Negate inner span
      | inr (inr (inl e)) ↦ ap (λ x. spans_of (expr x)) e ∙ spans_of_IsValid inner span
      | inr (inr (inr (inl e))) ↦ ap (λ x. spans_of (expr x)) e ∙ spans_of_IsInvalid inner span
      | inr (inr (inr (inr e))) ↦ ap (λ x. spans_of (expr x)) e ∙ spans_of_Group inner span
    ] in
    on_ok_weaker c.add_expr-in-Not.result
    (added_after c.args.spans.now _ _ _ _ _ c.in_ok-push-in-Not.ensures.ok (same ∙ ap (λ v. span ∷ spans_of (expr v)) (sym c.get-in-Not.ensures)))
    c.add_expr-in-Not.ensures

pub add_expr-returns-in-Member : goal.add_expr-returns-in-Member
add_expr-returns-in-Member t c =
    on_ok_weaker c.append.result (added_alone c.args.spans.now _ _ _ (ap (λ e. spans_of (expr e)) c.in-Member.is)) c.append.ensures.ok
