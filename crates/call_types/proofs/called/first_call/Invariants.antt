use Rattle.std.proofs.Common.{◌≡◌, drop, map, find}
use Rattle.slicc_plan.specs.Prelude.{is_call_on}
use Rattle.declared_types.specs.Prelude.{call_of, receiver_of}
use Rattle.call_types.proofs.called.first_call.Given as goal

abbrev pub invariant-loop-c : goal.invariant-loop-c
invariant-loop-c l =
    find (is_call_on (receiver_of l.on) l.text) (map call_of l.calls) ≡ find (is_call_on (receiver_of l.on) l.text) (map call_of (drop l.c-index l.calls))
