-- What comes later changes a scan by its addition alone. Messages that come to a controller, each to be seen in a later cycle, of another
-- actor and with a number that isn't in the inbox, and credits that arrive in a later cycle, leave what a scan of it answers and tries
-- as it is, but that they are in the controller which the scan leaves. So a scan needn't have them.
use Rattle.std.specs.Prelude.{◌≡◌, ℕ, List}
use Rattle.ruby_value.specs.declared.setup.MachineSetup.{MachineSetup}
use Rattle.run_journal.specs.declared.entry.StopAt.{StopAt}
use Rattle.ctl_face.specs.Prelude.{Actor, Ctl, IsLawful, scan_view}
use Rattle.acts.specs.Added.{Added, AreNew, ctl_with}
use Rattle.protocol_runs.specs.RunRules.{Fired, Full, Idle, Outcome, Rules, Scan, Stop}
use Rattle.protocol_runs.specs.Meaning.{Meaning}
use Rattle.protocol_runs.specs.Held.{MayCome, with_arrivals}

-- what a scan answers, with another controller left
abbrev pub outcome_with : {C M : Type 0} → (C → C) → Outcome C M → Outcome C M
outcome_with change Full = Full
outcome_with change (Fired note acts copies after) = Fired note acts copies (change after)
outcome_with change (Stop at) = Stop at
outcome_with change (Idle after) = Idle (change after)

abbrev pub scan_with : {C M : Type 0} → (C → C) → Scan C M → Scan C M
scan_with change s = record { outcome = outcome_with change s.outcome; tried = s.tried }

-- So it is in a run, where messages and credits come to a controller; nor does it matter whether they come before a count, a mark or a stop.
pub record IsFramed {C M D : Type 0} (r : Rules C M D) (Fits : ℕ → C → ℕ → Type 0) (Suits : ℕ → M → ℕ → Type 0) : Type 0 where
  pub scans :
      (c now : ℕ) (x : C) (ms : List M) → MayCome r Fits Suits c now x ms
      → r.scan c (with_arrivals r x ms) now ≡ scan_with (λ after. with_arrivals r after ms) (r.scan c x now)
  pub fires : (x : C) (ms : List M) → r.with_one_fired (with_arrivals r x ms) ≡ with_arrivals r (r.with_one_fired x) ms
  pub marks : (x : C) (ms : List M) (cycle : ℕ) → r.with_mark (with_arrivals r x ms) cycle ≡ with_arrivals r (r.with_mark x cycle) ms
  pub stops : (x : C) (ms : List M) (at : StopAt) → r.with_stop (with_arrivals r x ms) at ≡ with_arrivals r (r.with_stop x at) ms

-- So it is of each scan of a protocol, with marks of whatever cycles.
abbrev pub IsFramedMeaning : Meaning → Type 0
IsFramedMeaning p =
    (machine : ℕ) (setup : MachineSetup) (actor : Actor) (now limit : ℕ) (ctl : Ctl) (more : Added)
    → IsLawful (scan_view setup actor now ctl) → AreNew (scan_view setup actor now ctl) more
    → p.scan machine (scan_view setup actor now (ctl_with more ctl)) limit
    ≡ scan_with (ctl_with more) (p.scan machine (scan_view setup actor now ctl) limit)
