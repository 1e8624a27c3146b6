use Rattle.std.proofs.Common.{not, List, rules, get_or, arith}
use Rattle.std.proofs.lemmas.List.Sorted.{IsPartitionPoint-from_clause}
use Rattle.ruby_value.specs.declared.message.MsgNo.{MsgNo}
use Rattle.ruby_value.specs.Prelude.{number_before}
use Rattle.stall_map.proofs.Numbers.{not-back, partitioned, split}
use Rattle.stall_map.proofs.lane.place_in.Goals as goal

pub returns : goal.returns
returns c =
    let numbers : List MsgNo = c.args.numbers.now in
    split (λ (n : MsgNo). n) c.args.number numbers c.partition_point.result (omega arith)
    (IsPartitionPoint-from_clause (λ (n : MsgNo). not (number_before c.args.number n)) numbers c.partition_point.result
    c.partition_point.ensures.partitioned
    (partitioned (λ (n : MsgNo). n) c.args.number numbers (λ i j d lt within. not-back (get_or numbers i d) (get_or numbers j d) (c.requires i j d lt within)))
    (λ a r f' k. search rules))
