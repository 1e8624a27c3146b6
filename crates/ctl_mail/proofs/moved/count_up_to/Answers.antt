use Rattle.std.proofs.Common.{not, List, rules, arith}
use Rattle.std.proofs.lemmas.List.Sorted.{IsPartitionPoint-from_clause}
use Rattle.ruby_value.specs.Prelude.{number_before}
use Rattle.stall_map.proofs.Numbers.{partitioned, split}
use Rattle.ctl_mail.specs.declared.moves.Move.{Move}
use Rattle.ctl_mail.proofs.Numbered.{climbs}
use Rattle.ctl_mail.proofs.moved.count_up_to.Goals as goal

pub returns : goal.returns
returns c =
    let moves : List Move = c.args.moves.now.items in
    split (λ (m : Move). m.number) c.args.number moves c.partition_point.result (omega arith)
    (IsPartitionPoint-from_clause (λ (m : Move). not (number_before c.args.number m.number)) moves c.partition_point.result
    c.partition_point.ensures.partitioned (partitioned (λ (m : Move). m.number) c.args.number moves (climbs (λ (m : Move). m.number) moves c.requires)) (λ a r f' k. search rules))
