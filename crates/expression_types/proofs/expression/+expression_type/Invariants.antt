use Rattle.std.proofs.Common.{◌≡◌, drop, take}
use Rattle.slicc_plan.specs.Prelude.{span_of}
use Rattle.body_types.specs.Prelude.{environment_of, all_given_of, found_of, typed_of}
use Rattle.expression_types.specs.Prelude.{all_known, all_arguments, all_operands, all_suffixes}
use Rattle.expression_types.proofs.expression.+expression_type.Given as goal

abbrev pub invariant-operands-loop-o : goal.invariant-operands-loop-o
invariant-operands-loop-o l =
    found_of (all_operands (environment_of l.env) (span_of l.first) (typed_of l.left) (drop l.o-index l.others)) ≡ found_of (all_operands (environment_of l.env) (span_of l.first) (typed_of l.initial.left) l.others)

abbrev pub invariant-with_suffixes-loop-s : goal.invariant-with_suffixes-loop-s
invariant-with_suffixes-loop-s l =
    found_of (all_suffixes (environment_of l.env) l.at (typed_of l.left) (drop l.s-index l.suffixes)) ≡ found_of (all_suffixes (environment_of l.env) l.at (typed_of l.initial.left) l.suffixes)

abbrev pub invariant-all_given-loop-e : goal.invariant-all_given-loop-e
invariant-all_given-loop-e l =
    all_known (all_given_of l.given) ≡ all_known (all_arguments (environment_of l.env) (take l.e-index l.arguments))
