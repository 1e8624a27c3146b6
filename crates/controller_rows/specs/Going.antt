-- What holds from scan to scan: the controller fits its machine in the cycle, and may go by the routes. And how a scan ends of a store's
-- controller, on a draft that is sealed or dropped.
use Rattle.std.specs.Prelude.{ℕ}
use Rattle.ctl_face.specs.declared.routes.Routes.{Routes}
use Rattle.ctl_face.specs.Prelude.{Fits, HasRoutes}
use Rattle.ctl_store.specs.declared.outcome.Outcome.{Outcome}
use Rattle.ctl_store.specs.declared.parts.Parts.{Parts}
use Rattle.ctl_store.specs.Prelude.{ctl_of, machine_of, me_of, IsOutcomeFor, outcome_ctl}
use Rattle.controller_rows.specs.declared.scans.ScanEnd.{ScanEnd}
use Rattle.controller_rows.specs.declared.scans.ScanEnd.TheVariants.{Fired}

pub record GoesOn (s : Parts) (routes : Routes) (now : ℕ) : Type 0 where
  pub routes_fit : HasRoutes (machine_of s) (me_of s) routes
  pub fits : Fits (machine_of s) (me_of s) (ctl_of s) now

-- the outcome of a scan of the store's controller
pub record IsDone (s : Parts) (now : ℕ) (o : Outcome) : Type 0 where
  pub sealed : IsOutcomeFor o (ctl_of s)
  pub fits : Fits (machine_of s) (me_of s) (outcome_ctl o (ctl_of s)) now

-- what a scan of the store's controller has done can be applied
abbrev pub IsEndOf : Parts → ℕ → ScanEnd → Type 0
IsEndOf s now (Fired o) = IsDone s now o
IsEndOf s now _ = Unit {0}
