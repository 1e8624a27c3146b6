use Rattle.std.proofs.Common.{List, sym, subst}
use Rattle.ruby_value.specs.declared.message.Message.{Message}
use Rattle.ruby_value.specs.Prelude.{Roomy}
use Rattle.msg_buffer.specs.Prelude.{IsNew, IsQueue}
use Rattle.msg_buffer.proofs.Queues.{queue-with}
use Rattle.msg_buffer.proofs.buffer.Buffer.put.Goals as goal
use Rattle.msg_buffer.proofs.buffer.Buffer.put.Goals.{in-Ok, in-Err}

pub invariant_of-self : goal.invariant_of-self
invariant_of-self c =
    let new : IsNew c.self.inside.queue.items c.args.m.number = subst (λ (r : Roomy (List Message)). IsNew r.kept c.args.m.number) (sym {A = Roomy (List Message)} c.self.view_is) c.requires.new in
    elim c.match-insert.branch [
      | in-Ok w ↦ subst IsQueue (sym {A = List Message} w.in-Ok.ensures.items) (queue-with c.self.inside.queue.items c.args.m c.place_of-at.result c.self.invariant new c.place_of-at.ensures.place)
      | in-Err w ↦ subst IsQueue (sym {A = List Message} w.in-Err.ensures.unchanged.0) c.self.invariant
    ]
