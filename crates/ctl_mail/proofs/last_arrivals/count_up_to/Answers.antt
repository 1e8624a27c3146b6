use Rattle.std.proofs.Common.{not, List, rules, arith}
use Rattle.std.proofs.lemmas.List.Sorted.{IsPartitionPoint-from_clause}
use Rattle.ruby_value.specs.Prelude.{number_before}
use Rattle.stall_map.proofs.Numbers.{partitioned, split}
use Rattle.ctl_mail.specs.declared.last_arrivals.LastArrival.{LastArrival}
use Rattle.ctl_mail.specs.Log.{pair_of, place_of}
use Rattle.ctl_mail.proofs.Numbered.{climbs}
use Rattle.ctl_mail.proofs.last_arrivals.count_up_to.Goals as goal

pub returns : goal.returns
returns c =
    let arrivals : List LastArrival = c.args.arrivals.now in
    let pair = pair_of c.args.network c.args.receiver in
    split place_of pair arrivals c.partition_point.result (omega arith)
    (IsPartitionPoint-from_clause (λ (l : LastArrival). not (number_before pair (place_of l))) arrivals c.partition_point.result
    c.partition_point.ensures.partitioned (partitioned place_of pair arrivals (climbs place_of arrivals c.requires)) (λ a r f' k. search rules))
