-- The next cycle of a run: the least cycle above this one at which something must act, be it a controller, which has a
-- mark for the cycle, or the driver; where nothing must act above this cycle there is none. So a run passes over no
-- cycle at which something must act. That it goes straight to the next such cycle is this project's own rule.
use Rattle.std.specs.Prelude.{◌≡◌, ◌<◌, ◌≤◌, ◌⊎◌, ℕ, Option, None, Some, List, IsTrue, slice_get}
use Rattle.protocol_runs.specs.RunRules.{Rules}
use Rattle.protocol_runs.specs.World.{Place, must_wake}

-- the cycle is the least one above this that has the property
pub record IsLeastAbove (P : ℕ → Type 0) (now cycle : ℕ) : Type 0 where
  pub has : P cycle
  pub later : now < cycle
  pub least : (other : ℕ) → P other → now < other → cycle ≤ other

-- such a cycle, or none where there is none
abbrev pub IsLeastAboveIfAny : (ℕ → Type 0) → ℕ → Option ℕ → Type 0
IsLeastAboveIfAny P now None = (cycle : ℕ) → P cycle → now < cycle → ⊥
IsLeastAboveIfAny P now (Some cycle) = IsLeastAbove P now cycle

module _ {C M D : Type 0} (r : Rules C M D) where
  -- some controller has a mark for the cycle
  abbrev pub MustSomeWake : List (Place C) → ℕ → Type 0
  MustSomeWake places cycle =
      (c : ℕ) × (p : Place C) × (slice_get places c ≡ Some p) × IsTrue (must_wake r cycle p)

  -- a controller must act at the cycle, or the driver must, whose next cycle this is
  abbrev pub MustAct : Option ℕ → List (Place C) → ℕ → Type 0
  MustAct next places cycle = (next ≡ Some cycle) ⊎ MustSomeWake places cycle

  abbrev pub IsNextCycle : ℕ → Option ℕ → List (Place C) → Option ℕ → Type 0
  IsNextCycle now next places answer = IsLeastAboveIfAny (MustAct next places) now answer
