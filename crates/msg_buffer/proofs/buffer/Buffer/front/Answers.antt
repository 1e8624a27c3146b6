use Rattle.std.proofs.Common.{None, Some, refl, sym, arith}
use Rattle.msg_buffer.specs.Prelude.{is_ready}
use Rattle.msg_buffer.proofs.Queues.{begins-front, first-begins, none-begins, none-begins-late, past-end, front-law}
use Rattle.msg_buffer.proofs.buffer.Buffer.front.Goals as goal
use Rattle.msg_buffer.proofs.buffer.Buffer.front.Goals.{in_default-via-in-Some+else-m-now, in_default-via-in_default}

pub returns-in-Some-clause-value : goal.returns-in-Some-clause-value
returns-in-Some-clause-value c =
    rw (← c.self.view_is)
    (sym (first-begins c.args.now (is_ready c.args.now) c.self.inside.queue.items 0 c.in-Some.m.now c.self.invariant
    (begins-front c.args.now c.self.inside.queue.items) (omega (arith, c.in-Some.ensures.variant.0 refl)) c.in-Some.ensures.lookup (omega arith)))

pub returns-in-Some-clause-first : goal.returns-in-Some-clause-first
returns-in-Some-clause-first c =
    front-law c.args.self.now.kept c.args.now (Some c.in-Some.m.now) (returns-in-Some-clause-value c)

pub returns-in_default-clause-value : goal.returns-in_default-clause-value
returns-in_default-clause-value c =
    rw (← c.self.view_is)
    (elim c.in_default.branch [
      | in_default-via-in-Some+else-m-now w ↦
          sym (none-begins-late c.args.now (is_ready c.args.now) c.self.inside.queue.items 0 w.in-Some.m.now c.self.invariant
          (begins-front c.args.now c.self.inside.queue.items) (omega (arith, w.in-Some.ensures.variant.0 refl)) w.in-Some.ensures.lookup (omega arith))
      | in_default-via-in_default w ↦
          sym (none-begins c.args.now (is_ready c.args.now) c.self.inside.queue.items 0 c.self.invariant
          (begins-front c.args.now c.self.inside.queue.items) (omega (arith, past-end _ 0 w.in_default.ensures.variant.1)))
    ])

pub returns-in_default-clause-first : goal.returns-in_default-clause-first
returns-in_default-clause-first c =
    front-law c.args.self.now.kept c.args.now None (returns-in_default-clause-value c)
