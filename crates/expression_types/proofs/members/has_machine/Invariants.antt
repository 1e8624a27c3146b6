use Rattle.std.proofs.Common.{◌≡◌, drop, map, find}
use Rattle.std.specs.List.{flat_map, list_any}
use Rattle.slicc_plan.specs.Prelude.{is_among, machine_names, wide_scopes}
use Rattle.call_types.specs.Prelude.{machines_in}
use Rattle.expression_types.specs.Prelude.{is_called}
use Rattle.expression_types.proofs.members.has_machine.Given as goal

abbrev pub invariant-loop-number : goal.invariant-loop-number
invariant-loop-number l = is_among (machine_names l.scopes.trees.now) l.text ≡ list_any (is_called l.text) (flat_map machines_in (drop l.number (wide_scopes l.scopes.trees.now)))
