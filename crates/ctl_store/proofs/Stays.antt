-- A call that does what a definition has leaves a lawful local lawful, where the definition does.
use Rattle.std.proofs.Common.{◌≡◌, ℕ, Result, Ok, Err, sym, ap, subst}
use Rattle.ruby_value.specs.declared.fault.Fault.{Fault}
use Rattle.ctl_face.specs.declared.trouble.Trouble.{Trouble}
use Rattle.ctl_face.specs.declared.trouble.Trouble.TheVariants as trouble
use Rattle.ctl_face.specs.Prelude.{DoesWith, IsLawful, LocalView}
use Rattle.ctl_face.specs.declared.routes.Routes.{Routes}
use Rattle.ctl_store.specs.declared.changes.Changes.{Changes}
use Rattle.ctl_store.specs.declared.parts.Parts.{Parts}
use Rattle.ctl_store.specs.Prelude.{IsScan, Scanned, local_of, scanned}

pub stays_lawful : {A : Type 0} (want : Result LocalView Fault) (answer : A) (result : Result A Trouble) (v new : LocalView)
    → ((after : LocalView) → want ≡ Ok after → IsLawful after) → IsLawful v → DoesWith want answer result v new → IsLawful new
stays_lawful want answer (Ok a) v new kept lawful does = kept new does.comes.0
stays_lawful want answer (Err (trouble.Fault fault)) v new kept lawful does = subst IsLawful (sym does.comes.1) lawful
stays_lawful want answer (Err trouble.NoMemory) v new kept lawful does = subst IsLawful (sym does.comes) lawful

-- what a call on the scan has done to the local that it is, and that it is a scan still
pub record Steps {A : Type 0} (want : LocalView → Result LocalView Fault) (answer : LocalView → A) (result : Result A Trouble) (s new : Scanned) : Type 0 where
  pub does : DoesWith (want (local_of s)) (answer (local_of s)) result (local_of s) (local_of new)
  pub lawful : IsLawful (local_of new)
  pub scan : IsScan new

-- a scan with the same changes
pub scan_same : (p : Parts) (routes : Routes) (seed : ℕ) (changes same : Changes) → changes ≡ same → scanned p routes seed changes ≡ scanned p routes seed same
scan_same p routes seed changes same is = ap (scanned p routes seed) is

pub scan_kept : (p : Parts) (routes : Routes) (seed : ℕ) (changes same : Changes) → changes ≡ same → IsScan (scanned p routes seed same) → IsScan (scanned p routes seed changes)
scan_kept p routes seed changes same is scan = subst (λ (c : Changes). IsScan (scanned p routes seed c)) (sym is) scan
