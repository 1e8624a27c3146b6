use Rattle.std.proofs.Common.{ℕ, ◌<◌, IfSome, slice_get}
use Rattle.ctl_face.specs.Prelude.{IsNamed}
use Rattle.ctl_face.proofs.lawful.names_buffers.Given as goal

abbrev pub invariant-loop-buffer : goal.invariant-loop-buffer
invariant-loop-buffer l = (k : ℕ) → k < l.buffer → IfSome (slice_get l.buffers k) (λ s. IsNamed s.place k l.controller l.routes)
