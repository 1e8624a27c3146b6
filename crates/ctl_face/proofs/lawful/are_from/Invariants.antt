use Rattle.std.proofs.Common.{ℕ, ◌<◌, slice_get}
use Rattle.std.specs.Option.{option_flatten}
use Rattle.ctl_face.specs.Prelude.{IsFrom}
use Rattle.ctl_face.proofs.lawful.are_from.Given as goal

abbrev pub invariant-loop-network : goal.invariant-loop-network
invariant-loop-network l = (k : ℕ) → k < l.network → IsFrom l.machine k (option_flatten (slice_get l.buffers k))
