use Rattle.std.proofs.Common.{◌≡◌, ◌∷◌, ◌++◌, ◌∙◌, [], inl, inr, sym, ap, append-nil}
use Rattle.std.specs.List.{flat_map}
use Rattle.std.proofs.lemmas.Result.{on_ok_weaker}
use Rattle.slicc_ast.specs.declared.tree.statement.If.{out-If}
use Rattle.slicc_ast.specs.Prelude.{spans_of, expr, else_if_spans, if_outline, stmt}
use Rattle.slicc_ast.proofs.SpansOfLists.{added_all, added_after, added_last, added_alone, added_both, added_closed}
use Rattle.slicc_ast.proofs.SpansOfStatements.{stmt_list_spans, if_some, if_none, added_four, spans_of_Return, spans_of_Peek, spans_of_Enqueue}
use Rattle.slicc_ast.proofs.node_spans.statement.+statement_spans.Goals as goal

pub add_block-returns : goal.add_block-returns
add_block-returns t c =
    added_all (λ s. spans_of (stmt s)) c.args.spans.now c.args.b.now.span c.args.b.now.statements c.as_slice-statement-items.result.now c.loop-statement.statement-index _ _ _
    c.in_ok-push.ensures.ok c.as_slice-statement-items.ensures c.loop-statement-test.false c.loop-statement.invariant (stmt_list_spans c.args.b.now.statements)

pub add_if-returns-in-Some : goal.add_if-returns-in-Some
add_if-returns-in-Some t c =
    on_ok_weaker c.add_block-in-Some.result
    (λ after. added_four c.args.spans.now (out-If c.args.i.now).span _ _ _ _ _ _ _ _ _ _
    c.in_ok-push.ensures.ok c.in_ok-add_expr.ensures c.in_ok-add_block.ensures (c.in_ok-add_others.ensures ∙ ap (λ xs. c.add_block.new.spans ++ flat_map else_if_spans xs) c.deref.ensures) after
    (if_some c.args.i.now c.in-Some.block c.in-Some.is))
    c.add_block-in-Some.ensures

pub add_if-returns-in-None : goal.add_if-returns-in-None
add_if-returns-in-None t c =
    added_four c.args.spans.now (out-If c.args.i.now).span _ _ _ [] _ _ _ _ _ _
    c.in_ok-push.ensures.ok c.in_ok-add_expr.ensures c.in_ok-add_block.ensures (c.in_ok-add_others.ensures ∙ ap (λ xs. c.add_block.new.spans ++ flat_map else_if_spans xs) c.deref.ensures)
    (sym (append-nil c.add_others.new.spans)) (if_none c.args.i.now c.in-None.is)

pub add_stmt-returns-in-Declare : goal.add_stmt-returns-in-Declare
add_stmt-returns-in-Declare t c =
    let w = c.in-Declare in
    on_ok_weaker c.add_behind.result
    (added_closed c.args.spans.now (w.span ∷ w.kind.span ∷ w.name.span ∷ []) (spans_of (expr w.value)) c.add_behind.new.spans (spans_of (stmt c.args.s.now)) (ap (λ s. spans_of (stmt s)) w.is))
    c.add_behind.ensures

pub add_stmt-returns-in_ok-add_behind-in-Assign : goal.add_stmt-returns-in_ok-add_behind-in-Assign
add_stmt-returns-in_ok-add_behind-in-Assign t c =
    let w = c.in-Assign in
    on_ok_weaker c.add_expr.result
    (added_last c.args.spans.now (w.span ∷ spans_of (expr w.place)) (spans_of (expr w.value)) c.add_behind-in-Assign.new.spans c.add_expr.new.spans (spans_of (stmt c.args.s.now))
    c.in_ok-add_behind-in-Assign.ensures (ap (λ s. spans_of (stmt s)) w.is))
    c.add_expr.ensures

pub add_stmt-returns-in_ok-push-in-Return : goal.add_stmt-returns-in_ok-push-in-Return
add_stmt-returns-in_ok-push-in-Return t c =
    on_ok_weaker c.add_optional.result
    (added_after c.args.spans.now _ _ _ _ _ c.in_ok-push-in-Return.ensures.ok (ap (λ s. spans_of (stmt s)) c.in-Return.is ∙ spans_of_Return c.in-Return.value c.in-Return.span))
    c.add_optional.ensures

pub add_stmt-returns-in-If : goal.add_stmt-returns-in-If
add_stmt-returns-in-If t c =
    on_ok_weaker c.add_if.result
    (added_alone c.args.spans.now (spans_of (if_outline c.in-If.inner)) c.add_if.new.spans (spans_of (stmt c.args.s.now)) (ap (λ s. spans_of (stmt s)) c.in-If.is))
    c.add_if.ensures

pub add_stmt-returns-in_ok-add_pairs-in-Peek : goal.add_stmt-returns-in_ok-add_pairs-in-Peek
add_stmt-returns-in_ok-add_pairs-in-Peek t c =
    let p = c.in-Peek in
    on_ok_weaker c.add_block.result
    (added_after c.args.spans.now _ _ _ _ _
    (added_both c.args.spans.now _ _ _ _ c.in_ok-append-in-Peek.ensures.ok c.in_ok-add_pairs-in-Peek.ensures)
    (ap (λ s. spans_of (stmt s)) p.is ∙ spans_of_Peek p.port p.message p.pairs p.body p.span))
    c.add_block.ensures

pub add_stmt-returns-in_ok-add_optional-in-Enqueue : goal.add_stmt-returns-in_ok-add_optional-in-Enqueue
add_stmt-returns-in_ok-add_optional-in-Enqueue t c =
    let q = c.in-Enqueue in
    on_ok_weaker c.add_block-in-Enqueue.result
    (added_after c.args.spans.now _ _ _ _ _
    (added_both c.args.spans.now _ _ _ _ c.in_ok-append-in-Enqueue.ensures.ok c.in_ok-add_optional-in-Enqueue.ensures)
    (ap (λ s. spans_of (stmt s)) q.is ∙ spans_of_Enqueue q.port q.message q.latency q.body q.span))
    c.add_block-in-Enqueue.ensures

pub add_stmt-returns-in-StallAndWait : goal.add_stmt-returns-in-StallAndWait
add_stmt-returns-in-StallAndWait t c =
    let w = c.in-StallAndWait in
    on_ok_weaker c.add_behind-in-StallAndWait.result
    (added_closed c.args.spans.now (w.span ∷ w.port.span ∷ []) (spans_of (expr w.address)) c.add_behind-in-StallAndWait.new.spans (spans_of (stmt c.args.s.now)) (ap (λ s. spans_of (stmt s)) w.is))
    c.add_behind-in-StallAndWait.ensures

pub add_stmt-returns-in-CheckAllocate : goal.add_stmt-returns-in-CheckAllocate
add_stmt-returns-in-CheckAllocate t c =
    on_ok_weaker c.append-in-CheckAllocate.result
    (added_alone c.args.spans.now (c.in-CheckAllocate.span ∷ c.in-CheckAllocate.table.span ∷ []) c.append-in-CheckAllocate.new.self (spans_of (stmt c.args.s.now)) (ap (λ s. spans_of (stmt s)) c.in-CheckAllocate.is))
    c.append-in-CheckAllocate.ensures.ok

pub add_stmt-returns-in-Error : goal.add_stmt-returns-in-Error
add_stmt-returns-in-Error t c =
    on_ok_weaker c.push-in-Error.result
    (added_alone c.args.spans.now (c.in-Error.span ∷ []) c.push-in-Error.new.self (spans_of (stmt c.args.s.now)) (ap (λ s. spans_of (stmt s)) c.in-Error.is))
    c.push-in-Error.ensures.ok

pub add_stmt-returns-in_ok-push-in-Print : goal.add_stmt-returns-in_ok-push-in-Print
add_stmt-returns-in_ok-push-in-Print t c =
    on_ok_weaker c.add_balanced.result
    (added_last c.args.spans.now _ _ _ _ _ c.in_ok-push-in-Print.ensures.ok (ap (λ s. spans_of (stmt s)) c.in-Print.is))
    c.add_balanced.ensures

pub add_stmt-returns-in-Evaluate : goal.add_stmt-returns-in-Evaluate
add_stmt-returns-in-Evaluate t c =
    let w = c.in-Evaluate in
    let same : spans_of (stmt c.args.s.now) ≡ w.span ∷ (spans_of (expr w.value) ++ []) =
    elim w.is [ inl e ↦ ap (λ s. spans_of (stmt s)) e | inr e ↦ ap (λ s. spans_of (stmt s)) e ] in
    on_ok_weaker c.add_behind-in-Evaluate.result
    (added_closed c.args.spans.now (w.span ∷ []) (spans_of (expr w.value)) c.add_behind-in-Evaluate.new.spans (spans_of (stmt c.args.s.now)) same)
    c.add_behind-in-Evaluate.ensures
