use Rattle.std.proofs.Common.{◌≡◌, ◌++◌, take, map}
use Rattle.slicc_plan.specs.Prelude.{formal_wanted}
use Rattle.body_types.specs.Prelude.{environment_of, wanted_of}
use Rattle.call_types.proofs.wanted.add_formals.Given as goal

abbrev pub invariant-loop-f : goal.invariant-loop-f
invariant-loop-f l =
    map wanted_of l.wanted ≡ map wanted_of l.initial.wanted ++ map (formal_wanted (environment_of l.env)) (take l.f-index l.formals)
