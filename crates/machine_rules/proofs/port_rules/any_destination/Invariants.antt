use Rattle.std.proofs.Common.{◌≡◌, drop}
use Rattle.std.specs.List.{list_any}
use Rattle.slicc_plan.specs.Prelude.{is_destination}
use Rattle.declared_types.specs.Prelude.{scope_of}
use Rattle.machine_rules.proofs.port_rules.any_destination.Given as goal

abbrev pub invariant-loop-member : goal.invariant-loop-member
invariant-loop-member l =
    list_any (is_destination l.scopes.trees.now (scope_of l.scope)) l.members ≡ list_any (is_destination l.scopes.trees.now (scope_of l.scope)) (drop l.member-index l.members)
