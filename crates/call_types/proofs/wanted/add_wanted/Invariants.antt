use Rattle.std.proofs.Common.{◌≡◌, ◌++◌, take, map}
use Rattle.slicc_plan.specs.Prelude.{wanted_by}
use Rattle.declared_types.specs.Prelude.{argument_of, receiver_of}
use Rattle.body_types.specs.Prelude.{wanted_of}
use Rattle.call_types.proofs.wanted.add_wanted.Given as goal

abbrev pub invariant-loop-a : goal.invariant-loop-a
invariant-loop-a l =
    map wanted_of l.wanted ≡ map wanted_of l.initial.wanted ++ wanted_by l.lines.machine.now (receiver_of l.on) (map argument_of (take l.a-index l.arguments))
