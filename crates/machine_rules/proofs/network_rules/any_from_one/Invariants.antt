use Rattle.std.proofs.Common.{◌≡◌, drop, map}
use Rattle.std.specs.List.{list_any}
use Rattle.slicc_plan.specs.Prelude.{BufferIn, are_from_one}
use Rattle.machine_table.specs.Prelude.{buffer_seen, place_seen}
use Rattle.machine_rules.proofs.network_rules.any_from_one.Given as goal

abbrev pub invariant-loop-a : goal.invariant-loop-a
invariant-loop-a l =
    list_any (λ (a : BufferIn). are_from_one a.place (place_seen l.place)) (map buffer_seen l.before) ≡ list_any (λ (a : BufferIn). are_from_one a.place (place_seen l.place)) (map buffer_seen (drop l.a-index l.before))
