use Rattle.std.proofs.Common.{◌≡◌, ℕ, Some, length, slice_get}
use Rattle.world_state.specs.declared.place.Kept.{Kept}
use Rattle.ruby_world.specs.Prelude.{IsOpenedFor}
use Rattle.ruby_world.proofs.opening.all_kept.Given as goal

-- those with smaller numbers are there
abbrev pub invariant-loop-c : goal.invariant-loop-c
invariant-loop-c l = record {
  count : length l.kept.items ≡ l.c;
  each : (c : ℕ) (k : Kept) → slice_get l.kept.items c ≡ Some k → IsOpenedFor l.plan l.topology c k;
}
