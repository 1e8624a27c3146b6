use Rattle.std.proofs.Common.{◌++◌, ◌∙◌, None, Some, sym, ap, append-nil}
use Rattle.std.proofs.lemmas.Result.{on_ok_weaker}
use Rattle.slicc_flow.specs.Sends.{port_sends}
use Rattle.slicc_flow.proofs.SendLists.{added_enqueue, added_if, added_peek}
use Rattle.slicc_flow.proofs.sends.+statement_sends.Goals as goal

pub add_if-returns-in-Some : goal.add_if-returns-in-Some
add_if-returns-in-Some t c =
    on_ok_weaker c.add_block-in-Some.result
    (added_if c.args.own.now c.args.i.now (Some c.in-Some.block) c.deref.result.now c.args.list.now c.add_block.new.list c.add_others.new.list c.add_block-in-Some.new.list
    c.in-Some.is c.deref.ensures c.in_ok-add_block.ensures c.in_ok-add_others.ensures)
    c.add_block-in-Some.ensures

pub add_if-returns-in-None : goal.add_if-returns-in-None
add_if-returns-in-None t c =
    added_if c.args.own.now c.args.i.now None c.deref.result.now c.args.list.now c.add_block.new.list c.add_others.new.list c.add_others.new.list
    c.in-None.is c.deref.ensures c.in_ok-add_block.ensures c.in_ok-add_others.ensures (sym (append-nil c.add_others.new.list))

pub add_stmt-returns-in-Peek : goal.add_stmt-returns-in-Peek
add_stmt-returns-in-Peek t c =
    on_ok_weaker c.add_block.result
    (added_peek c.args.own.now c.args.s.now c.in-Peek.port c.in-Peek.message c.in-Peek.pairs c.in-Peek.body c.in-Peek.span c.args.list.now c.add_block.new.list c.in-Peek.is)
    c.add_block.ensures

pub add_stmt-returns-in_ok-add_port-in-Enqueue : goal.add_stmt-returns-in_ok-add_port-in-Enqueue
add_stmt-returns-in_ok-add_port-in-Enqueue t c =
    on_ok_weaker c.add_block-in-Enqueue.result
    (added_enqueue c.args.own.now c.args.s.now c.in-Enqueue.port c.in-Enqueue.message c.in-Enqueue.latency c.in-Enqueue.body c.in-Enqueue.span c.args.list.now c.add_port.new.list c.add_block-in-Enqueue.new.list
    c.in-Enqueue.is (c.in_ok-add_port-in-Enqueue.ensures ∙ ap (λ text. c.args.list.now ++ port_sends c.args.own.now text) c.as_slice.ensures))
    c.add_block-in-Enqueue.ensures
