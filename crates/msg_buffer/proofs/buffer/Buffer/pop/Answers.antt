use Rattle.std.proofs.Common.{◌≡◌, true, not, is_some, List, sym, ap, subst, ◌∙◌}
use Rattle.ruby_value.specs.declared.message.Message.{Message}
use Rattle.ruby_value.specs.Prelude.{Roomy}
use Rattle.msg_buffer.specs.Prelude.{front}
use Rattle.msg_buffer.proofs.Queues.{found-front, popped-front, popped-rest}
use Rattle.msg_buffer.proofs.buffer.Buffer.pop.Goals as goal

pub returns-clause-value : goal.returns-clause-value
returns-clause-value c =
    let there : is_some (front c.args.self.now.kept c.args.now) ≡ true =
    found-front c.front.result (front c.args.self.now.kept c.args.now) c.front.ensures.value (c.is_none.ensures ∙ ap not c.if-is_none.false) in
    rw (c.ok_or.ensures.value, ← c.self.view_is)
    (popped-front _ c.pop_front.result c.self.inside.queue.items c.pop_front.new.self.items c.args.now c.self.invariant c.pop_front.ensures.items
    (subst (λ (r : Roomy (List Message)). is_some (front r.kept c.args.now) ≡ true) (sym {A = Roomy (List Message)} c.self.view_is) there))

pub returns-clause-after : goal.returns-clause-after
returns-clause-after c =
    rw (c.ok_or.ensures.value, ← c.self.view_is)
    (popped-rest _ c.pop_front.result c.self.inside.queue.items c.pop_front.new.self.items c.self.invariant c.pop_front.ensures.items)
