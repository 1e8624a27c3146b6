use Rattle.std.proofs.Common.{rules, ◌≡◌, ◌&&◌, ◌∙◌, true, false, sym}
use Rattle.std.specs.Str.{bytes_eq}
use Rattle.slicc_ast.specs.Prelude.{pair_list, none, optional_expr, stmt}
use Rattle.slicc_same.specs.Prelude.{same_parts, alike_else_if, alike_stmt}
use Rattle.slicc_same.proofs.Turns.{left_ends, next_turn, right_ends, unlike_turn}
use Rattle.slicc_same.proofs.AlikeForms.{same_at, known_first}
use Rattle.slicc_same.proofs.AlikeStatements.{alike_Declare, alike_Assign, alike_Evaluate, alike_Assert, alike_Return, alike_Peek, alike_Enqueue, alike_StallAndWait, alike_CheckAllocate, alike_Error, alike_Print}
use Rattle.slicc_same.proofs.statement.+statement.Goals.{same_stmt-then-same_type, same_stmt-else-same_type, same_stmt-then-same_name-2, same_stmt-else-same_name-2, same_stmt-then-same_type-2, same_stmt-else-same_type-2, same_stmt-then-same_name-3, same_stmt-else-same_name-3, same_stmt-then-same_type-3, same_stmt-else-same_type-3}
use Rattle.slicc_ast.specs.declared.tree.statement.Stmt.TheViews.{the_lemmas}
use Rattle.slicc_same.proofs.Bools.{and_false, both_asked, first_asked, listed}
use Rattle.slicc_same.proofs.StatementLists.{assert_print, check_print, enqueue_print, error_print, if_print, peek_print, print_assert, print_check, print_enqueue, print_error, print_if, print_peek, print_return, print_stall, return_print, stall_print, if_alike, if_is, statements_alike}
use Rattle.slicc_same.proofs.statement.+statement.Goals as goal

pub same_block-returns : goal.same_block-returns
same_block-returns t c =
    listed alike_stmt c.args.a.now.statements c.args.b.now.statements _ _ _ _ c.all_same_statements.ensures c.deref.ensures c.deref-2.ensures
    (statements_alike c.args.a.now.statements c.args.b.now.statements)

pub same_if-returns-else-all_same_else_ifs : goal.same_if-returns-else-all_same_else_ifs
same_if-returns-else-all_same_else_ifs t c = search (rules, the_lemmas, if_alike)

pub same_if-returns-then-all_same_else_ifs : goal.same_if-returns-then-all_same_else_ifs
same_if-returns-then-all_same_else_ifs t c = search (rules, the_lemmas, if_alike)

pub same_stmt-returns-in_default : goal.same_stmt-returns-in_default
same_stmt-returns-in_default t c = search (rules, the_lemmas, if_is, and_false)

pub same_stmt-returns-in_default-2 : goal.same_stmt-returns-in_default-2
same_stmt-returns-in_default-2 t c = search (rules, the_lemmas, if_is, and_false)

pub same_stmt-returns-in_default-3 : goal.same_stmt-returns-in_default-3
same_stmt-returns-in_default-3 t c = search (rules, the_lemmas, if_is, and_false)

pub same_stmt-returns-in_default-4 : goal.same_stmt-returns-in_default-4
same_stmt-returns-in_default-4 t c = search (rules, the_lemmas, if_is, return_print)

pub same_stmt-returns-in_default-5 : goal.same_stmt-returns-in_default-5
same_stmt-returns-in_default-5 t c = search (rules, the_lemmas, if_is, if_print)

pub same_stmt-returns-in_default-6 : goal.same_stmt-returns-in_default-6
same_stmt-returns-in_default-6 t c = search (rules, the_lemmas, if_is, peek_print)

pub same_stmt-returns-in_default-7 : goal.same_stmt-returns-in_default-7
same_stmt-returns-in_default-7 t c = search (rules, the_lemmas, if_is, enqueue_print)

pub same_stmt-returns-in_default-8 : goal.same_stmt-returns-in_default-8
same_stmt-returns-in_default-8 t c = search (rules, the_lemmas, if_is, stall_print)

pub same_stmt-returns-in_default-9 : goal.same_stmt-returns-in_default-9
same_stmt-returns-in_default-9 t c = search (rules, the_lemmas, if_is, check_print)

pub same_stmt-returns-in_default-10 : goal.same_stmt-returns-in_default-10
same_stmt-returns-in_default-10 t c = search (rules, the_lemmas, if_is, error_print)

pub same_stmt-returns-in_default-11 : goal.same_stmt-returns-in_default-11
same_stmt-returns-in_default-11 t c = search (rules, the_lemmas, if_is, assert_print)

pub same_stmt-returns-in_default-12 : goal.same_stmt-returns-in_default-12
same_stmt-returns-in_default-12 t c = search (rules, the_lemmas, if_is, print_return, print_if, print_peek, print_enqueue, print_stall, print_check, print_error, print_assert)

pub same_stmt-returns-then-same_name : goal.same_stmt-returns-then-same_name
same_stmt-returns-then-same_name t c =
    let w = c.in-Declare-Declare in
    let same = same_at stmt _ _ _ _ w.is-0 w.is-1 ∙ alike_Declare w.kind w.other_kind w.name w.other_name w.value w.other_value w.span-0 w.span-1 in
    let asked : c.if-same_type.value ≡ bytes_eq w.kind.text w.other_kind.text && bytes_eq w.name.text w.other_name.text =
    elim c.if-same_type.branch [
      | same_stmt-then-same_type b ↦ both_asked _ _ _ _ _ c.same_type.ensures b.if-same_type.true b.value-is b.same_name.ensures
      | same_stmt-else-same_type b ↦ first_asked _ _ _ _ c.same_type.ensures b.if-same_type.false b.value-is
    ] in
    c.same_expr.ensures ∙ sym (known_first _ _ _ _ true asked c.if-same_name.true same)

pub same_stmt-returns-else-same_name : goal.same_stmt-returns-else-same_name
same_stmt-returns-else-same_name t c =
    let w = c.in-Declare-Declare in
    let same = same_at stmt _ _ _ _ w.is-0 w.is-1 ∙ alike_Declare w.kind w.other_kind w.name w.other_name w.value w.other_value w.span-0 w.span-1 in
    let asked : c.if-same_type.value ≡ bytes_eq w.kind.text w.other_kind.text && bytes_eq w.name.text w.other_name.text =
    elim c.if-same_type.branch [
      | same_stmt-then-same_type b ↦ both_asked _ _ _ _ _ c.same_type.ensures b.if-same_type.true b.value-is b.same_name.ensures
      | same_stmt-else-same_type b ↦ first_asked _ _ _ _ c.same_type.ensures b.if-same_type.false b.value-is
    ] in
    c.if-same_name.false ∙ sym (known_first _ _ _ _ false asked c.if-same_name.false same)

pub same_stmt-returns-then-same_expr : goal.same_stmt-returns-then-same_expr
same_stmt-returns-then-same_expr t c =
    let w = c.in-Assign-Assign in
    let same = same_at stmt _ _ _ _ w.is-0 w.is-1 ∙ alike_Assign w.place w.other_place w.value w.other_value w.span-0 w.span-1 in
    c.same_expr-then-same_expr.ensures ∙ sym (known_first _ _ _ _ true c.same_expr-in-Assign-Assign.ensures c.if-same_expr.true same)

pub same_stmt-returns-else-same_expr : goal.same_stmt-returns-else-same_expr
same_stmt-returns-else-same_expr t c =
    let w = c.in-Assign-Assign in
    let same = same_at stmt _ _ _ _ w.is-0 w.is-1 ∙ alike_Assign w.place w.other_place w.value w.other_value w.span-0 w.span-1 in
    c.if-same_expr.false ∙ sym (known_first _ _ _ _ false c.same_expr-in-Assign-Assign.ensures c.if-same_expr.false same)

pub same_stmt-returns-in-Evaluate-Evaluate : goal.same_stmt-returns-in-Evaluate-Evaluate
same_stmt-returns-in-Evaluate-Evaluate t c =
    let w = c.in-Evaluate-Evaluate in
    let same = same_at stmt _ _ _ _ w.is-0 w.is-1 ∙ alike_Evaluate w.a w.b w.field-1-0 w.field-1-1 in
    c.same_expr-in-Evaluate-Evaluate.ensures ∙ sym same

pub same_stmt-returns-in-Assert-Assert : goal.same_stmt-returns-in-Assert-Assert
same_stmt-returns-in-Assert-Assert t c =
    let w = c.in-Assert-Assert in
    let same = same_at stmt _ _ _ _ w.is-0 w.is-1 ∙ alike_Assert w.a w.b w.field-1-0 w.field-1-1 in
    c.same_expr-in-Assert-Assert.ensures ∙ sym same

pub same_stmt-returns-in-Return-Return : goal.same_stmt-returns-in-Return-Return
same_stmt-returns-in-Return-Return t c =
    let w = c.in-Return-Return in
    let same = same_at stmt _ _ _ _ w.is-0 w.is-1 ∙ alike_Return w.a w.b w.field-1-0 w.field-1-1 in
    c.same_optional.ensures ∙ sym same

pub same_stmt-returns-in-CheckAllocate-CheckAllocate : goal.same_stmt-returns-in-CheckAllocate-CheckAllocate
same_stmt-returns-in-CheckAllocate-CheckAllocate t c =
    let w = c.in-CheckAllocate-CheckAllocate in
    let same = same_at stmt _ _ _ _ w.is-0 w.is-1 ∙ alike_CheckAllocate w.a w.b w.field-1-0 w.field-1-1 in
    c.same_name-in-CheckAllocate-CheckAllocate.ensures ∙ sym same

pub same_stmt-returns-in-Error-Error : goal.same_stmt-returns-in-Error-Error
same_stmt-returns-in-Error-Error t c =
    let w = c.in-Error-Error in
    let same = same_at stmt _ _ _ _ w.is-0 w.is-1 ∙ alike_Error w.a w.b w.field-1-0 w.field-1-1 in
    c.same_text.ensures ∙ sym same

pub same_stmt-returns-in-If-If : goal.same_stmt-returns-in-If-If
same_stmt-returns-in-If-If t c =
    c.same_if.ensures ∙ sym (same_at stmt _ _ _ _ c.in-If-If.is-0 c.in-If-If.is-1)

pub same_stmt-returns-then-same_pairs : goal.same_stmt-returns-then-same_pairs
same_stmt-returns-then-same_pairs t c =
    let w = c.in-Peek-Peek in
    let same = same_at stmt _ _ _ _ w.is-0 w.is-1 ∙ alike_Peek w.port w.other_port w.message w.other_message w.pairs w.other_pairs w.body w.other_body w.span-0 w.span-1 in
    let two : c.if-same_name-2.value ≡ bytes_eq w.port.text w.other_port.text && bytes_eq w.message.text w.other_message.text =
    elim c.if-same_name-2.branch [
      | same_stmt-then-same_name-2 b ↦ both_asked _ _ _ _ _ c.same_name-in-Peek-Peek.ensures b.if-same_name-2.true b.value-is b.same_type-then-same_name-2.ensures
      | same_stmt-else-same_name-2 b ↦ first_asked _ _ _ _ c.same_name-in-Peek-Peek.ensures b.if-same_name-2.false b.value-is
    ] in
    let three : c.if-same_type-2.value ≡ (bytes_eq w.port.text w.other_port.text && bytes_eq w.message.text w.other_message.text) && same_parts (pair_list w.pairs.items) (pair_list w.other_pairs.items) =
    elim c.if-same_type-2.branch [
      | same_stmt-then-same_type-2 b ↦ both_asked _ _ _ _ _ two b.if-same_type-2.true b.value-is b.same_pairs.ensures
      | same_stmt-else-same_type-2 b ↦ first_asked _ _ _ _ two b.if-same_type-2.false b.value-is
    ] in
    c.same_block.ensures ∙ sym (known_first _ _ _ _ true three c.if-same_pairs.true same)

pub same_stmt-returns-else-same_pairs : goal.same_stmt-returns-else-same_pairs
same_stmt-returns-else-same_pairs t c =
    let w = c.in-Peek-Peek in
    let same = same_at stmt _ _ _ _ w.is-0 w.is-1 ∙ alike_Peek w.port w.other_port w.message w.other_message w.pairs w.other_pairs w.body w.other_body w.span-0 w.span-1 in
    let two : c.if-same_name-2.value ≡ bytes_eq w.port.text w.other_port.text && bytes_eq w.message.text w.other_message.text =
    elim c.if-same_name-2.branch [
      | same_stmt-then-same_name-2 b ↦ both_asked _ _ _ _ _ c.same_name-in-Peek-Peek.ensures b.if-same_name-2.true b.value-is b.same_type-then-same_name-2.ensures
      | same_stmt-else-same_name-2 b ↦ first_asked _ _ _ _ c.same_name-in-Peek-Peek.ensures b.if-same_name-2.false b.value-is
    ] in
    let three : c.if-same_type-2.value ≡ (bytes_eq w.port.text w.other_port.text && bytes_eq w.message.text w.other_message.text) && same_parts (pair_list w.pairs.items) (pair_list w.other_pairs.items) =
    elim c.if-same_type-2.branch [
      | same_stmt-then-same_type-2 b ↦ both_asked _ _ _ _ _ two b.if-same_type-2.true b.value-is b.same_pairs.ensures
      | same_stmt-else-same_type-2 b ↦ first_asked _ _ _ _ two b.if-same_type-2.false b.value-is
    ] in
    c.if-same_pairs.false ∙ sym (known_first _ _ _ _ false three c.if-same_pairs.false same)

pub same_stmt-returns-then-same_optional : goal.same_stmt-returns-then-same_optional
same_stmt-returns-then-same_optional t c =
    let w = c.in-Enqueue-Enqueue in
    let same = same_at stmt _ _ _ _ w.is-0 w.is-1 ∙ alike_Enqueue w.port w.other_port w.message w.other_message w.latency w.other_latency w.body w.other_body w.span-0 w.span-1 in
    let two : c.if-same_name-3.value ≡ bytes_eq w.port.text w.other_port.text && bytes_eq w.message.text w.other_message.text =
    elim c.if-same_name-3.branch [
      | same_stmt-then-same_name-3 b ↦ both_asked _ _ _ _ _ c.same_name-in-Enqueue-Enqueue.ensures b.if-same_name-3.true b.value-is b.same_type-then-same_name-3.ensures
      | same_stmt-else-same_name-3 b ↦ first_asked _ _ _ _ c.same_name-in-Enqueue-Enqueue.ensures b.if-same_name-3.false b.value-is
    ] in
    let three : c.if-same_type-3.value ≡ (bytes_eq w.port.text w.other_port.text && bytes_eq w.message.text w.other_message.text) && same_parts (optional_expr w.latency none) (optional_expr w.other_latency none) =
    elim c.if-same_type-3.branch [
      | same_stmt-then-same_type-3 b ↦ both_asked _ _ _ _ _ two b.if-same_type-3.true b.value-is b.same_optional-then-same_type-3.ensures
      | same_stmt-else-same_type-3 b ↦ first_asked _ _ _ _ two b.if-same_type-3.false b.value-is
    ] in
    c.same_block-then-same_optional.ensures ∙ sym (known_first _ _ _ _ true three c.if-same_optional.true same)

pub same_stmt-returns-else-same_optional : goal.same_stmt-returns-else-same_optional
same_stmt-returns-else-same_optional t c =
    let w = c.in-Enqueue-Enqueue in
    let same = same_at stmt _ _ _ _ w.is-0 w.is-1 ∙ alike_Enqueue w.port w.other_port w.message w.other_message w.latency w.other_latency w.body w.other_body w.span-0 w.span-1 in
    let two : c.if-same_name-3.value ≡ bytes_eq w.port.text w.other_port.text && bytes_eq w.message.text w.other_message.text =
    elim c.if-same_name-3.branch [
      | same_stmt-then-same_name-3 b ↦ both_asked _ _ _ _ _ c.same_name-in-Enqueue-Enqueue.ensures b.if-same_name-3.true b.value-is b.same_type-then-same_name-3.ensures
      | same_stmt-else-same_name-3 b ↦ first_asked _ _ _ _ c.same_name-in-Enqueue-Enqueue.ensures b.if-same_name-3.false b.value-is
    ] in
    let three : c.if-same_type-3.value ≡ (bytes_eq w.port.text w.other_port.text && bytes_eq w.message.text w.other_message.text) && same_parts (optional_expr w.latency none) (optional_expr w.other_latency none) =
    elim c.if-same_type-3.branch [
      | same_stmt-then-same_type-3 b ↦ both_asked _ _ _ _ _ two b.if-same_type-3.true b.value-is b.same_optional-then-same_type-3.ensures
      | same_stmt-else-same_type-3 b ↦ first_asked _ _ _ _ two b.if-same_type-3.false b.value-is
    ] in
    c.if-same_optional.false ∙ sym (known_first _ _ _ _ false three c.if-same_optional.false same)

pub same_stmt-returns-then-same_name-4 : goal.same_stmt-returns-then-same_name-4
same_stmt-returns-then-same_name-4 t c =
    let w = c.in-StallAndWait-StallAndWait in
    let same = same_at stmt _ _ _ _ w.is-0 w.is-1 ∙ alike_StallAndWait w.port w.other_port w.address w.other_address w.span-0 w.span-1 in
    c.same_expr-then-same_name-4.ensures ∙ sym (known_first _ _ _ _ true c.same_name-in-StallAndWait-StallAndWait.ensures c.if-same_name-4.true same)

pub same_stmt-returns-else-same_name-4 : goal.same_stmt-returns-else-same_name-4
same_stmt-returns-else-same_name-4 t c =
    let w = c.in-StallAndWait-StallAndWait in
    let same = same_at stmt _ _ _ _ w.is-0 w.is-1 ∙ alike_StallAndWait w.port w.other_port w.address w.other_address w.span-0 w.span-1 in
    c.if-same_name-4.false ∙ sym (known_first _ _ _ _ false c.same_name-in-StallAndWait-StallAndWait.ensures c.if-same_name-4.false same)

pub same_stmt-returns-then-same_print_word : goal.same_stmt-returns-then-same_print_word
same_stmt-returns-then-same_print_word t c =
    let w = c.in-Print-Print in
    let same = same_at stmt _ _ _ _ w.is-0 w.is-1 ∙ alike_Print w.word w.other_word w.arguments w.other_arguments w.span-0 w.span-1 in
    c.same_balanced.ensures ∙ sym (known_first _ _ _ _ true c.same_print_word.ensures c.if-same_print_word.true same)

pub same_stmt-returns-else-same_print_word : goal.same_stmt-returns-else-same_print_word
same_stmt-returns-else-same_print_word t c =
    let w = c.in-Print-Print in
    let same = same_at stmt _ _ _ _ w.is-0 w.is-1 ∙ alike_Print w.word w.other_word w.arguments w.other_arguments w.span-0 w.span-1 in
    c.if-same_print_word.false ∙ sym (known_first _ _ _ _ false c.same_print_word.ensures c.if-same_print_word.false same)

pub all_same_statements-loop-x-preserved : goal.all_same_statements-loop-x-preserved
all_same_statements-loop-x-preserved t c =
    next_turn alike_stmt c.args.a.now c.loop-x.right.now c.loop-x.x-index c.x-item.result c.y-item.result _ _
    c.loop-x.invariant c.loop-x-test.true c.x-item.is c.in-len1-up.len_at_least c.y-item.is c.same_stmt.ensures c.if-not-same_stmt.false

pub all_same_statements-returns-then-not-same_stmt : goal.all_same_statements-returns-then-not-same_stmt
all_same_statements-returns-then-not-same_stmt t c =
    unlike_turn alike_stmt c.args.a.now c.loop-x.right.now c.loop-x.x-index c.x-item.result c.y-item.result _ _
    c.loop-x.invariant c.loop-x-test.true c.x-item.is c.in-len1-up.len_at_least c.y-item.is c.same_stmt.ensures c.if-not-same_stmt.true

pub all_same_statements-returns-in_default : goal.all_same_statements-returns-in_default
all_same_statements-returns-in_default t c = right_ends alike_stmt c.args.a.now c.loop-x.right.now c.loop-x.x-index c.x-item.result _ c.loop-x.invariant c.loop-x-test.true c.in_default.len_below

pub all_same_statements-returns : goal.all_same_statements-returns
all_same_statements-returns t c = left_ends alike_stmt c.args.a.now c.loop-x.right.now c.loop-x.x-index _ _ c.loop-x.invariant c.loop-x-test.false c.is_empty.ensures

pub all_same_else_ifs-returns-in_default : goal.all_same_else_ifs-returns-in_default
all_same_else_ifs-returns-in_default t c = right_ends alike_else_if c.args.a.now c.loop-x.right.now c.loop-x.x-index c.x-item.result _ c.loop-x.invariant c.loop-x-test.true c.in_default.len_below

pub all_same_else_ifs-returns : goal.all_same_else_ifs-returns
all_same_else_ifs-returns t c = left_ends alike_else_if c.args.a.now c.loop-x.right.now c.loop-x.x-index _ _ c.loop-x.invariant c.loop-x-test.false c.is_empty.ensures
