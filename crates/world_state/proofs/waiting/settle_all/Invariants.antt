use Rattle.std.proofs.Common.{◌≡◌, length}
use Rattle.world_state.specs.Prelude.{made_in}
use Rattle.world_state.proofs.Settled.{SettledUpTo}
use Rattle.world_state.proofs.waiting.settle_all.Given as goal

abbrev pub invariant-loop-c : goal.invariant-loop-c
invariant-loop-c l = SettledUpTo l.fn.places.items l.fn.waiting.items l.c l.places.items l.waiting.items × ((l.c-end ≡ length l.fn.places.items) × (made_in l.places.items ≡ made_in l.fn.places.items))
