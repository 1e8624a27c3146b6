use Rattle.std.proofs.Common.{◌≡◌, drop, map}
use Rattle.std.specs.List.{list_any}
use Rattle.slicc_plan.specs.Prelude.{differ}
use Rattle.machine_table.specs.Prelude.{port_seen}
use Rattle.machine_rules.proofs.network_rules.any_differs.Given as goal

abbrev pub invariant-loop-q : goal.invariant-loop-q
invariant-loop-q l = list_any (differ (port_seen l.p)) (map port_seen l.before) ≡ list_any (differ (port_seen l.p)) (map port_seen (drop l.q-index l.before))
