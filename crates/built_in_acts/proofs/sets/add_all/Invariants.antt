use Rattle.std.proofs.Common.{◌≡◌, fold, length}
use Rattle.ruby_value.specs.Prelude.{with_member}
use Rattle.built_in_acts.proofs.Going.{Rise}
use Rattle.built_in_acts.proofs.sets.add_all.Given as goal

abbrev pub invariant-loop-m : goal.invariant-loop-m
invariant-loop-m l = record {
  done : fold with_member l.members l.others ≡ fold with_member l.initial.members l.initial.others;
  rise : Rise l.others;
}

abbrev pub decreases-loop-m : goal.decreases-loop-m
decreases-loop-m l = length l.others
