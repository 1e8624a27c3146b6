use Rattle.std.proofs.Common.{◌≡◌, drop, map}
use Rattle.slicc_plan.specs.Prelude.{wrong_arguments, earlier_of_both, first_of}
use Rattle.body_types.specs.Prelude.{environment_of, all_given_of, wanted_of}
use Rattle.call_types.proofs.arguments.wrong_arguments.Given as goal

abbrev pub invariant-loop-number : goal.invariant-loop-number
invariant-loop-number l =
    earlier_of_both l.first (first_of (wrong_arguments (environment_of l.env) (map wanted_of (drop l.number l.wanted)) (all_given_of (drop l.number l.given))))
    ≡ first_of (wrong_arguments (environment_of l.env) (map wanted_of l.wanted) (all_given_of l.given))
