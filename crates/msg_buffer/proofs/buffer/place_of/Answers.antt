use Rattle.std.proofs.Common.{◌≡◌, ◌-◌, ◌<◌, ◌≤◌, Bool, true, false, not, List, length, get_or, refl, sym, subst, ◌∙◌, rules, arith}
use Rattle.std.proofs.lemmas.List.{get_or_read}
use Rattle.std.proofs.lemmas.List.Sorted.{IsPartitionPoint-from_clause}
use Rattle.ruby_value.specs.declared.message.Message.{Message}
use Rattle.msg_buffer.specs.Prelude.{comes_before, is_after}
use Rattle.msg_buffer.proofs.Placed.{placed}
use Rattle.msg_buffer.proofs.Queues.{partitioned, place}
use Rattle.msg_buffer.proofs.buffer.place_of.Goals as goal
use Rattle.msg_buffer.proofs.buffer.place_of.Goals.{then-at-eq0-via-then-at-eq0, then-at-eq0-via-else-at-eq0+then-not-is_after}

pub returns-then-at-eq0-clause-place : goal.returns-then-at-eq0-clause-place
returns-then-at-eq0-clause-place c =
    let xs : List Message = c.args.queue.now.items in
    let at = c.len-at.result in
    let long : at ≡ length xs = omega (arith, c.len-at.ensures, c.args.queue.now.ok) in
    placed comes_before c.args.m.now xs at
    (place xs c.args.m.now at c.requires.queue c.requires.new (omega arith) (λ k d le lt. absurd (omega arith))
    (λ positive. elim c.then-at-eq0.branch [
      | then-at-eq0-via-then-at-eq0 w ↦ absurd (omega (arith, w.if-at-eq0.true))
      | then-at-eq0-via-else-at-eq0+then-not-is_after w ↦
          let within : at - 1 < length xs = omega arith in
          subst (λ (o : Message). comes_before c.args.m.now o ≡ false)
          (get_or_read xs (at - 1) w.index.result.now within w.index.ensures c.args.m.now)
          (sym w.is_after.ensures ∙ w.if-not-is_after.true)
    ]))

not-not : (b : Bool) → not b ≡ true → b ≡ false
not-not true is = absurd (cc is)
not-not false is = refl

not-false : (b : Bool) → not b ≡ false → b ≡ true
not-false true is = refl
not-false false is = absurd (cc is)

pub returns-clause-place : goal.returns-clause-place
returns-clause-place c =
    let xs : List Message = c.args.queue.now.items in
    let m : Message = c.args.m.now in
    let at = c.partition_point.result in
    let point =
    IsPartitionPoint-from_clause (λ (x : Message). not (is_after m.arrival m.number x)) xs at
    c.partition_point.ensures.partitioned (partitioned m.arrival m.number xs c.requires.queue) (λ a r f' k. search rules) in
    let within : at ≤ length xs = omega (arith, c.partition_point.ensures.bound, c.args.queue.now.ok) in
    placed comes_before m xs at
    (place xs m at c.requires.queue c.requires.new within
    (λ k d le lt. not-false (is_after m.arrival m.number (get_or xs k d)) (point.1 k d le lt))
    (λ positive. not-not (is_after m.arrival m.number (get_or xs (at - 1) m)) (point.0 (at - 1) m (omega arith) (omega arith))))
