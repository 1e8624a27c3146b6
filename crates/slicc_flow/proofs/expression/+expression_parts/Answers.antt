use Rattle.std.proofs.Common.{rules, ◌≡◌, ◌∷◌, ◌++◌, ◌∙◌, [], sym, ap, append_assoc}
use Rattle.std.specs.List.{flat_map}
use Rattle.std.specs.Option.{option_copied}
use Rattle.std.proofs.lemmas.Result.{on_ok_weaker}
use Rattle.slicc_ast.specs.declared.tree.expression.Expr.TheViews.{the_lemmas}
use Rattle.slicc_plan.specs.declared.part.Part.TheVariants.{Plain}
use Rattle.slicc_plan.specs.Prelude.{call_part, changes_more, changing, expr_parts, name_in, number_in, suffix_parts}
use Rattle.slicc_flow.specs.Prelude.{operand_parts, suffix_list_parts}
use Rattle.slicc_flow.proofs.PartLists.{added_both, added_suffix, argument_rows}
use Rattle.slicc_flow.proofs.PartsOfBoxes.{expr_parts_of_Cast, expr_parts_of_Group, expr_parts_of_Operation, expr_parts_of_Postfix, expr_parts_of_plain_boxes}
use Rattle.slicc_flow.proofs.expression.+expression_parts.Goals as goal

pub add_expr-returns-in_ok-push-in-Call : goal.add_expr-returns-in_ok-push-in-Call
add_expr-returns-in_ok-push-in-Call t c =
    let same : expr_parts c.args.names.now c.args.e.now ≡ call_part c.in-Call.name.text c.in-Call.span (number_in c.args.names.now.functions c.in-Call.name.text) ∷ flat_map (expr_parts c.args.names.now) c.in-Call.arguments.items =
    search (rules, the_lemmas, argument_rows c.args.names.now) in
    let item : c.call_of.result ≡ call_part c.in-Call.name.text c.in-Call.span (number_in c.args.names.now.functions c.in-Call.name.text) =
    c.call_of.ensures ∙ ap (λ text. call_part text c.in-Call.span (number_in c.args.names.now.functions text)) c.as_slice.ensures in
    on_ok_weaker c.add_args.result
    (λ after. added_both c.args.parts.now (c.call_of.result ∷ []) _ _ _ c.in_ok-push-in-Call.ensures.ok after
    ∙ ap (λ xs. c.args.parts.now ++ xs) (ap (λ p. p ∷ flat_map (expr_parts c.args.names.now) c.in-Call.arguments.items) item ∙ sym same))
    c.add_args.ensures

pub add_suffix-returns-in_ok-push-in-Method : goal.add_suffix-returns-in_ok-push-in-Method
add_suffix-returns-in_ok-push-in-Method t c =
    let same : suffix_parts c.args.names.now (option_copied c.args.receiver) c.args.place c.args.s.now ≡ changing (changes_more c.args.names.now (option_copied c.args.receiver) c.in-Method.name.text) c.args.place ∷ flat_map (expr_parts c.args.names.now) c.in-Method.arguments.items =
    search (rules, the_lemmas, argument_rows c.args.names.now) in
    let item : c.change_part.result ≡ changing (changes_more c.args.names.now (option_copied c.args.receiver) c.in-Method.name.text) c.args.place =
    c.change_part.ensures ∙ ap (λ b. changing b c.args.place) (c.is_change-changes.ensures ∙ ap (changes_more c.args.names.now (option_copied c.args.receiver)) c.as_slice.ensures) in
    on_ok_weaker c.add_args.result
    (λ after. added_both c.args.parts.now (c.change_part.result ∷ []) _ _ _ c.in_ok-push-in-Method.ensures.ok after
    ∙ ap (λ xs. c.args.parts.now ++ xs) (ap (λ p. p ∷ flat_map (expr_parts c.args.names.now) c.in-Method.arguments.items) item ∙ sym same))
    c.add_args.ensures

pub add_expr-returns-in_ok-add_expr-in-Operation : goal.add_expr-returns-in_ok-add_expr-in-Operation
add_expr-returns-in_ok-add_expr-in-Operation t c =
    let same : expr_parts c.args.names.now c.args.e.now ≡ expr_parts c.args.names.now c.in-Operation.first ++ flat_map (operand_parts c.args.names.now) c.in-Operation.others =
    ap (expr_parts c.args.names.now) c.in-Operation.is ∙ expr_parts_of_Operation c.args.names.now c.in-Operation.first c.in-Operation.others c.in-Operation.span in
    on_ok_weaker c.add_operands.result
    (λ after. added_both c.args.parts.now (expr_parts c.args.names.now c.get.result.now) _ _ _ c.in_ok-add_expr-in-Operation.ensures after
    ∙ ap (λ xs. c.args.parts.now ++ xs)
    (ap (λ v. expr_parts c.args.names.now v ++ flat_map (operand_parts c.args.names.now) c.deref.result.now) c.get.ensures
    ∙ ap (λ xs. expr_parts c.args.names.now c.in-Operation.first ++ flat_map (operand_parts c.args.names.now) xs) c.deref.ensures ∙ sym same))
    c.add_operands.ensures

pub add_expr-returns-in_ok-add_expr-in-Postfix : goal.add_expr-returns-in_ok-add_expr-in-Postfix
add_expr-returns-in_ok-add_expr-in-Postfix t c =
    let same : expr_parts c.args.names.now c.args.e.now ≡ expr_parts c.args.names.now c.in-Postfix.value ++ suffix_list_parts c.args.names.now (name_in c.in-Postfix.value) c.in-Postfix.span c.in-Postfix.suffixes =
    ap (expr_parts c.args.names.now) c.in-Postfix.is ∙ expr_parts_of_Postfix c.args.names.now c.in-Postfix.value c.in-Postfix.suffixes c.in-Postfix.span in
    let named : option_copied c.name_in.result ≡ name_in c.in-Postfix.value = c.name_in.ensures ∙ ap name_in c.get-in-Postfix-2.ensures in
    on_ok_weaker c.add_suffixes.result
    (λ after. added_both c.args.parts.now (expr_parts c.args.names.now c.get-in-Postfix.result.now) _ _ _ c.in_ok-add_expr-in-Postfix.ensures after
    ∙ ap (λ xs. c.args.parts.now ++ xs)
    (ap (λ v. expr_parts c.args.names.now v ++ suffix_list_parts c.args.names.now (option_copied c.name_in.result) c.in-Postfix.span c.deref-in-Postfix.result.now) c.get-in-Postfix.ensures
    ∙ ap (λ n. expr_parts c.args.names.now c.in-Postfix.value ++ suffix_list_parts c.args.names.now n c.in-Postfix.span c.deref-in-Postfix.result.now) named
    ∙ ap (λ xs. expr_parts c.args.names.now c.in-Postfix.value ++ suffix_list_parts c.args.names.now (name_in c.in-Postfix.value) c.in-Postfix.span xs) c.deref-in-Postfix.ensures ∙ sym same))
    c.add_suffixes.ensures

pub add_suffixes-loop-number-preserved : goal.add_suffixes-loop-number-preserved
add_suffixes-loop-number-preserved t c =
    added_suffix c.args.names.now (option_copied c.args.receiver) _ c.args.place c.args.suffixes.now c.loop-number.number c.index-suffixes-number.result c.args.parts.now _ _
    c.loop-number-test.true c.loop-number.invariant c.name_behind-behind.ensures
    (c.in_ok-add_suffix.ensures ∙ ap (λ x. c.loop-number.parts ++ suffix_parts c.args.names.now (option_copied c.name_behind-behind.result) c.args.place x) c.index-suffixes-number.is)

pub add_expr-returns-in_ok-push-in-Cast : goal.add_expr-returns-in_ok-push-in-Cast
add_expr-returns-in_ok-push-in-Cast t c =
    let same : expr_parts c.args.names.now c.args.e.now ≡ (Plain ∷ []) ++ expr_parts c.args.names.now c.in-Cast.value =
    ap (expr_parts c.args.names.now) c.in-Cast.is ∙ expr_parts_of_Cast c.args.names.now c.in-Cast.target c.in-Cast.mode c.in-Cast.value c.in-Cast.span in
    on_ok_weaker c.add_expr-in-Cast.result
    (λ after. added_both c.args.parts.now (Plain ∷ []) _ _ _ c.in_ok-push-in-Cast.ensures.ok after
    ∙ ap (λ xs. c.args.parts.now ++ xs) (ap (λ e. (Plain ∷ []) ++ expr_parts c.args.names.now e) c.get-in-Cast.ensures ∙ sym same))
    c.add_expr-in-Cast.ensures

pub add_expr-returns-in-Group : goal.add_expr-returns-in-Group
add_expr-returns-in-Group t c =
    let same : expr_parts c.args.names.now c.args.e.now ≡ expr_parts c.args.names.now c.in-Group.inner =
    ap (expr_parts c.args.names.now) c.in-Group.is ∙ expr_parts_of_Group c.args.names.now c.in-Group.inner c.in-Group.field-1 in
    on_ok_weaker c.add_expr-in-Group.result
    (λ after. after ∙ ap (λ xs. c.args.parts.now ++ xs) (ap (expr_parts c.args.names.now) c.get-in-Group.ensures ∙ sym same))
    c.add_expr-in-Group.ensures

pub add_expr-returns-in_ok-push-in-Not : goal.add_expr-returns-in_ok-push-in-Not
add_expr-returns-in_ok-push-in-Not t c = search (rules, the_lemmas, expr_parts_of_plain_boxes, append_assoc)
