use Rattle.std.proofs.Common.{◌&&◌, not, refl, sym, rules, arith}
use Rattle.std.proofs.lemmas.List.Sorted.{IsPartitionPoint-from_clause}
use Rattle.msg_buffer.specs.Prelude.{is_after, is_ready}
use Rattle.msg_buffer.proofs.Queues.{Begins, begins-after, first-begins, none-begins, none-begins-late, past-end, partitioned}
use Rattle.msg_buffer.proofs.buffer.Buffer.next_after.Goals as goal
use Rattle.msg_buffer.proofs.buffer.Buffer.next_after.Goals.{in_default-via-in-Some+else-m-now, in_default-via-in_default}

pub returns-in-Some : goal.returns-in-Some
returns-in-Some c =
    let xs = c.self.inside.queue.items in
    let begins : Begins (is_ready c.args.now) (λ m. is_ready c.args.now m && is_after c.args.arrival c.args.number m) xs c.partition_point-at.result =
    begins-after c.args.now c.args.arrival c.args.number xs c.partition_point-at.result
    (IsPartitionPoint-from_clause (λ m. not (is_after c.args.arrival c.args.number m)) xs c.partition_point-at.result
    c.partition_point-at.ensures.partitioned (partitioned c.args.arrival c.args.number xs c.self.invariant) (λ a r f' k. search rules)) in
    rw (← c.self.view_is)
    (sym (first-begins c.args.now (λ m. is_ready c.args.now m && is_after c.args.arrival c.args.number m) xs c.partition_point-at.result c.in-Some.m.now c.self.invariant
    begins (omega (arith, c.in-Some.ensures.variant.0 refl)) c.in-Some.ensures.lookup (omega arith)))

pub returns-in_default : goal.returns-in_default
returns-in_default c =
    let xs = c.self.inside.queue.items in
    let begins : Begins (is_ready c.args.now) (λ m. is_ready c.args.now m && is_after c.args.arrival c.args.number m) xs c.partition_point-at.result =
    begins-after c.args.now c.args.arrival c.args.number xs c.partition_point-at.result
    (IsPartitionPoint-from_clause (λ m. not (is_after c.args.arrival c.args.number m)) xs c.partition_point-at.result
    c.partition_point-at.ensures.partitioned (partitioned c.args.arrival c.args.number xs c.self.invariant) (λ a r f' k. search rules)) in
    rw (← c.self.view_is)
    (elim c.in_default.branch [
      | in_default-via-in-Some+else-m-now w ↦
          sym (none-begins-late c.args.now (λ m. is_ready c.args.now m && is_after c.args.arrival c.args.number m) xs c.partition_point-at.result w.in-Some.m.now c.self.invariant
          begins (omega (arith, w.in-Some.ensures.variant.0 refl)) w.in-Some.ensures.lookup (omega arith))
      | in_default-via-in_default w ↦
          sym (none-begins c.args.now (λ m. is_ready c.args.now m && is_after c.args.arrival c.args.number m) xs c.partition_point-at.result c.self.invariant
          begins (omega (arith, past-end _ c.partition_point-at.result w.in_default.ensures.variant.1)))
    ])
