use Rattle.std.proofs.Common.{◌≡◌, ℕ, ◌+◌, ◌<◌, eqb, IfSome, length, slice_get}
use Rattle.ctl_face.specs.Prelude.{is_parameters}
use Rattle.ctl_face.proofs.lawful.end_in_parameters.Given as goal

abbrev pub invariant-loop-table : goal.invariant-loop-table
invariant-loop-table l =
    (k : ℕ) → k < l.table → IfSome (slice_get l.tables k) (λ s. is_parameters s.size ≡ eqb (k + 1) (length l.tables))
