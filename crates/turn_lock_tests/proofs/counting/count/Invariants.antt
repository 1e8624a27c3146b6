use Rattle.std.proofs.Common.{◌≡◌, [], false}
use Rattle.turn_lock_tests.specs.Counts.{counts_of}
use Rattle.turn_lock_tests.proofs.counting.count.Given as goal

abbrev pub invariant-loop-before : goal.invariant-loop-before
invariant-loop-before g l =
    (l.pass.lock ≡ l.initial.pass.lock) × (l.pass.inside ≡ false) × (l.pass.number ≡ l.initial.pass.number) × (l.pass.met ≡ 1) × (l.pass.others ≡ []) × (l.pass.mine ≡ counts_of l.initial.pass.number l.before)
