-- The laws of bodies, at what each act keeps.
use Rattle.std.proofs.Common.{◌≡◌, ℕ, List, Result, Ok, Err, All, subst, sym}
use Rattle.ruby_value.specs.declared.fault.Fault.{Fault}
use Rattle.ruby_value.specs.declared.fault.Fault.TheVariants as fault
use Rattle.ruby_value.specs.declared.setup.MachineSetup.{MachineSetup}
use Rattle.ctl_face.specs.Prelude.{IsLawful, FitsReceiver, IsController, IsInRun, Actor, LocalView, SameScan, messages_among}
use Rattle.ctl_face.proofs.Receivers.{posted_fit}
use Rattle.acts.specs.Prelude.{Acting, run, HoldsAfter, Done, CountsStay, IsMarked, MarksStay, HasMailed}
use Rattle.acts.proofs.Laws.{all_keeps, keeps_where_served}
use Rattle.acts.proofs.Effects.{Changes}
use Rattle.acts.proofs.Lawful.{lawful_act}
use Rattle.acts.proofs.Mail.{has_mailed}
use Rattle.acts.proofs.Scans.{body_effect, never_invalid, not_invalid, weaker_after}

module _ {A : Type 0} (p : Acting A) (v : LocalView) where
  pub stays_lawful : IsLawful v → HoldsAfter IsLawful (run p v)
  stays_lawful l = all_keeps IsLawful (keeps_where_served IsLawful lawful_act) p v l

  pub stays_in_scan : HoldsAfter (SameScan v) (run p v)
  stays_in_scan = weaker_after (Changes v) (SameScan v) (λ w is. is.scan) (run p v) (body_effect p v)

  pub counts_stay : HoldsAfter (CountsStay v) (run p v)
  counts_stay = weaker_after (Changes v) (CountsStay v) (λ w is. is.counts) (run p v) (body_effect p v)

  pub marks_stay : HoldsAfter (MarksStay v) (run p v)
  marks_stay = weaker_after (Changes v) (MarksStay v) (λ w is. is.marks) (run p v) (body_effect p v)

  pub stays_marked : IsMarked v → HoldsAfter IsMarked (run p v)
  stays_marked m = weaker_after (Changes v) IsMarked (λ w is. is.marked m) (run p v) (body_effect p v)

  pub mail_moves : IsLawful v → HoldsAfter HasMailed (run p v)
  mail_moves l = weaker_after IsLawful HasMailed has_mailed (run p v) (stays_lawful l)

  pub never_as_invalid : run p v ≡ Err fault.Invalid → ⊥
  never_as_invalid = not_invalid (run p v) (never_invalid p v)

  module _ (machines : List MachineSetup) (ranges : List (ℕ × ℕ)) where
    in_run_after : (r : Result (Done A) Fault) → IsController machines ranges v.machine v.actor → HoldsAfter (SameScan v) r → HoldsAfter IsLawful r → HoldsAfter (IsInRun machines ranges) r
    in_run_after (Ok d) is scan lawful = record {
      controller = subst (λ (m : MachineSetup). IsController machines ranges m d.view.actor) (sym scan.machine) (subst (λ (a : Actor). IsController machines ranges v.machine a) (sym scan.actor) is);
      lawful = lawful;
    }
    in_run_after (Err e) is scan lawful = tt

    pub stays_in_run : IsInRun machines ranges v → HoldsAfter (IsInRun machines ranges) (run p v)
    stays_in_run is = in_run_after (run p v) is.controller stays_in_scan (stays_lawful is.lawful)

    pub copies_have_receivers : IsInRun machines ranges v → HoldsAfter (λ w. All (FitsReceiver machines ranges) (messages_among w.acts.posted)) (run p v)
    copies_have_receivers is =
        weaker_after (IsInRun machines ranges) (λ w. All (FitsReceiver machines ranges) (messages_among w.acts.posted)) (posted_fit machines ranges) (run p v) (stays_in_run is)
