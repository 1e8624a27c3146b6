use Rattle.std.proofs.Common.{◌≡◌, ◌++◌, map}
use Rattle.slicc_plan.specs.Prelude.{transition_symbol}
use Rattle.protocol_symbols.proofs.states.add_transitions.Given as goal

abbrev pub invariant-loop-t : goal.invariant-loop-t
invariant-loop-t l = l.list ≡ l.initial.list ++ map transition_symbol l.yielded
