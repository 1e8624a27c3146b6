use Rattle.std.proofs.lemmas.Result.{on_ok_weaker}
use Rattle.slicc_flow.proofs.PartLists.{added_enqueue, added_if_none, added_if_some, added_peek}
use Rattle.slicc_flow.proofs.statement.+statement_parts.Goals as goal

pub add_if-returns-in-Some : goal.add_if-returns-in-Some
add_if-returns-in-Some t c =
    on_ok_weaker c.add_block-in-Some.result
    (added_if_some c.args.names.now c.args.i.now c.in-Some.block c.deref.result.now c.args.parts.now c.add_expr.new.parts c.add_block.new.parts c.add_others.new.parts c.add_block-in-Some.new.parts
    c.in-Some.is c.deref.ensures c.in_ok-add_expr.ensures c.in_ok-add_block.ensures c.in_ok-add_others.ensures)
    c.add_block-in-Some.ensures

pub add_if-returns-in-None : goal.add_if-returns-in-None
add_if-returns-in-None t c =
    added_if_none c.args.names.now c.args.i.now c.deref.result.now c.args.parts.now c.add_expr.new.parts c.add_block.new.parts c.add_others.new.parts
    c.in-None.is c.deref.ensures c.in_ok-add_expr.ensures c.in_ok-add_block.ensures c.in_ok-add_others.ensures

pub add_stmt-returns-in_ok-push-in-Peek : goal.add_stmt-returns-in_ok-push-in-Peek
add_stmt-returns-in_ok-push-in-Peek t c =
    on_ok_weaker c.add_block.result
    (added_peek c.args.names.now c.args.s.now c.in-Peek.port c.in-Peek.message c.in-Peek.pairs c.in-Peek.body c.in-Peek.span c.args.parts.now c.push-in-Peek.new.self c.add_block.new.parts
    c.in-Peek.is c.in_ok-push-in-Peek.ensures.ok)
    c.add_block.ensures

pub add_stmt-returns-in_ok-add_optional-in-Enqueue : goal.add_stmt-returns-in_ok-add_optional-in-Enqueue
add_stmt-returns-in_ok-add_optional-in-Enqueue t c =
    on_ok_weaker c.add_block-in-Enqueue.result
    (added_enqueue c.args.names.now c.args.s.now c.in-Enqueue.port c.in-Enqueue.message c.in-Enqueue.latency c.in-Enqueue.body c.in-Enqueue.span c.args.parts.now c.push-in-Enqueue.new.self c.add_optional-in-Enqueue.new.parts c.add_block-in-Enqueue.new.parts
    c.in-Enqueue.is c.in_ok-push-in-Enqueue.ensures.ok c.in_ok-add_optional-in-Enqueue.ensures)
    c.add_block-in-Enqueue.ensures
