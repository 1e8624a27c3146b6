-- No mark is lost before its cycle: in the world after an event each controller has each mark that it had for a later cycle, unless
-- the run has gone on past that cycle. This rule is this project's own.
use Rattle.std.specs.Prelude.{ℕ, ◌<◌, ◌≤◌, Bool, false, Option, None, Some, IsTrue, slice_get}
use Rattle.ruby_value.specs.Prelude.{has_mark}
use Rattle.protocol_runs.specs.RunRules.{Rules}
use Rattle.protocol_runs.specs.World.{Place, World}

module _ {C M D : Type 0} (r : Rules C M D) where
  abbrev pub marked_at : ℕ → Option (Place C) → Bool
  marked_at cycle None = false
  marked_at cycle (Some p) = has_mark (r.marks p.controller) cycle

  abbrev pub MarksStay : World C D → World C D → Type 0
  MarksStay w after =
      (c cycle : ℕ) → w.now < cycle → after.now ≤ cycle → IsTrue (marked_at cycle (slice_get w.places c))
      → IsTrue (marked_at cycle (slice_get after.places c))
