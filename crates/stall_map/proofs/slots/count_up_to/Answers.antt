use Rattle.std.proofs.Common.{not, List, rules, arith}
use Rattle.std.proofs.lemmas.List.Sorted.{IsPartitionPoint-from_clause}
use Rattle.ruby_value.specs.Prelude.{number_before}
use Rattle.stall_map.specs.declared.slots.Slot.{Slot}
use Rattle.stall_map.proofs.Numbers.{partitioned, split}
use Rattle.stall_map.proofs.Orders.{climbs}
use Rattle.stall_map.proofs.slots.count_up_to.Goals as goal

pub returns : goal.returns
returns c =
    let slots : List Slot = c.args.slots.now.items in
    split (λ (s : Slot). s.number) c.args.number slots c.partition_point.result (omega arith)
    (IsPartitionPoint-from_clause (λ (s : Slot). not (number_before c.args.number s.number)) slots c.partition_point.result
    c.partition_point.ensures.partitioned (partitioned (λ (s : Slot). s.number) c.args.number slots (climbs slots c.requires.order)) (λ a r f' k. search rules))
