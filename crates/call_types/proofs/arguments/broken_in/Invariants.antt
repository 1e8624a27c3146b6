use Rattle.std.proofs.Common.{◌≡◌, take}
use Rattle.slicc_plan.specs.Prelude.{broken_in, first_of}
use Rattle.body_types.specs.Prelude.{all_given_of}
use Rattle.call_types.proofs.arguments.broken_in.Given as goal

abbrev pub invariant-loop-g : goal.invariant-loop-g
invariant-loop-g l = l.first ≡ first_of (broken_in (all_given_of (take l.g-index l.given)))
