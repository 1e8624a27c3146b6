use Rattle.std.proofs.Common.{◌≡◌, ◌++◌, List, false, length, All, Result, vec_len}
use Rattle.ruby_base.specs.declared.memory.NoMemory.{NoMemory}
use Rattle.turn_lock.specs.Prelude.{Standing}
use Rattle.turn_lock_tests.specs.Meetings.{IsListed}
use Rattle.turn_lock_tests.proofs.counting.all_met.Given as goal

abbrev pub invariant-loop-result : goal.invariant-loop-result
invariant-loop-result l =
    (l.whole.lock ≡ l.lock.id) × (l.whole.inside ≡ false)
    × ((done : List (Result (Standing (Unit {0})) NoMemory)) × (l.fn.results.items ≡ l.results.items ++ done) × (l.whole.met ≡ length done) × All (IsListed l.whole) done)

abbrev pub decreases-loop-result : goal.decreases-loop-result
decreases-loop-result l = vec_len l.results
