-- What each act keeps, each part of a scan keeps; so each stays in its scan.
use Rattle.std.proofs.Common.{Result, Ok, Err, refl, subst}
use Rattle.ruby_value.specs.declared.fault.Fault.{Fault}
use Rattle.run_journal.specs.declared.entry.StopAt.{StopAt}
use Rattle.ctl_face.specs.Prelude.{IsLawful, LocalView, SameScan}
use Rattle.acts.specs.Prelude.{Act, Done, HoldsAfter, act, follow, does, run}
use Rattle.acts.proofs.Instances.{stays_in_scan, stays_lawful}
use Rattle.acts.proofs.Scans.{same_scan}
use Rattle.body_meaning.specs.declared.frame.Known.{Known}
use Rattle.body_meaning.specs.Prelude.{Trying, ends, stops, acts, looks_up, follow_scan, run_scan}
use Rattle.scan_steps.specs.Prelude.{TriesAs}

abbrev pub ScanHolds : {A : Type 0} → (LocalView → Type 0) → Result (Done A) StopAt → Type 0
ScanHolds I (Ok d) = I d.view
ScanHolds I (Err at) = Unit {0}

module _ (I : LocalView → Type 0) (keeps : (a : Act) (v : LocalView) → I v → HoldsAfter I (does a v)) where
  next_holds : {A B : Type 0} (k : Known) (r : Result (Done A) Fault) (next : A → LocalView → Result (Done B) StopAt) → HoldsAfter I r
      → ((x : A) (w : LocalView) → I w → ScanHolds I (next x w)) → ScanHolds I (follow_scan k r next)
  next_holds k (Ok d) next here rest = rest d.value d.view here
  next_holds k (Err f) next here rest = tt

  pub scan_keeps : {A : Type 0} (p : Trying A) (v : LocalView) → I v → ScanHolds I (run_scan p v)
  unfolding run_scan
  scan_keeps (ends x) v here = here
  scan_keeps (stops at) v here = tt
  scan_keeps (acts k a more) v here =
      next_holds k (does a v) (λ x w. run_scan (more x) w) (keeps a v here) (λ x w is. scan_keeps (more x) w is)
  scan_keeps (looks_up pair rest) v here = scan_keeps rest v here

-- one act is a body that does it alone
module _ {A : Type 0} (I : LocalView → Type 0) where
  of_alone : (r : Result (Done A) Fault) → HoldsAfter I (follow r (λ x w. Ok (record { value = x; view = w }))) → HoldsAfter I r
  of_alone (Ok d) is = is
  of_alone (Err f) is = tt

pub act_in_scan : (a : Act) (v : LocalView) → HoldsAfter (SameScan v) (does a v)
unfolding run act
act_in_scan a v = of_alone (SameScan v) (does a v) (stays_in_scan (act a) v)

pub act_lawful : (a : Act) (v : LocalView) → IsLawful v → HoldsAfter IsLawful (does a v)
unfolding run act
act_lawful a v lawful = of_alone IsLawful (does a v) (stays_lawful (act a) v lawful)

same_after : {A : Type 0} (u v : LocalView) (r : Result (Done A) Fault) → SameScan u v → HoldsAfter (SameScan v) r → HoldsAfter (SameScan u) r
same_after u v (Ok d) first second = same_scan u v d.view first second
same_after u v (Err f) first second = tt

here_again : (v : LocalView) → SameScan v v
here_again v = record { machine = refl; actor = refl; now = refl; start = refl }

pub scan_stays : {A : Type 0} (p : Trying A) (v : LocalView) → ScanHolds (SameScan v) (run_scan p v)
scan_stays p v = scan_keeps (SameScan v) (λ a w is. same_after v w (does a w) is (act_in_scan a w)) p v (here_again v)

-- what a function of the code has done is in its scan
module _ {A R : Type 0} (means : R → A) where
  pub tries_stay : (p : Trying A) (r : R) (v w : LocalView) → TriesAs means p (Ok r) v w → SameScan v w
  unfolding TriesAs
  tries_stay p r v w does = subst (ScanHolds (SameScan v)) does (scan_stays p v)
