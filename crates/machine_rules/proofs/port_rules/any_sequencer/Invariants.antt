use Rattle.std.proofs.Common.{◌≡◌, drop}
use Rattle.std.specs.List.{list_any}
use Rattle.slicc_plan.specs.Prelude.{is_sequencer}
use Rattle.declared_types.specs.Prelude.{declarations_of}
use Rattle.machine_rules.proofs.port_rules.any_sequencer.Given as goal

abbrev pub invariant-loop-d : goal.invariant-loop-d
invariant-loop-d l =
    list_any (is_sequencer l.m.scopes.now.trees.now l.m.machine.now) (declarations_of l.declarations) ≡ list_any (is_sequencer l.m.scopes.now.trees.now l.m.machine.now) (declarations_of (drop l.d-index l.declarations))
