-- What a scan that fires has done to slots, and what it has sent, as a run has it.
use Rattle.std.proofs.Common.{◌≡◌, ◌==◌, ℕ, List, All, not, map, filter, sym, subst}
use Rattle.ruby_value.specs.declared.message.Delivery.{Delivery}
use Rattle.ruby_value.specs.declared.message.Sent.{Sent}
use Rattle.run_journal.specs.declared.entry.FireNote.{FireNote}
use Rattle.ctl_face.specs.declared.parcel.Parcel.{Parcel}
use Rattle.ctl_face.specs.Prelude.{Actor, Ctl, IsCreditFor, IsLawful, LocalView, SameScan, credits_among, messages_among, sent_of}
use Rattle.acts.specs.Prelude.{IsLeft, IsPosted}
use Rattle.acts.proofs.Left.{left_lawful, left_mailed, left_scan}
use Rattle.protocol_runs.specs.Prelude.{Acts, Fired, FitsRun, IsMeaning, IsSetting, Meaning, Rules, Setting, actor_of, rules}
use Rattle.protocol_runs.proofs.Scans.{begun, fitting, lawful, scan-of}
use Rattle.sequencer.specs.Prelude.{Drive, Seat}
use Rattle.slot_laws.specs.Prelude.{MovesSlots}
use Rattle.slot_laws.proofs.Slotted.{left_slotted, slots_begin}

-- of a controller with this number, which had this mail and now has that
pub record HasMoved (actor : Actor) (now : ℕ) (x after : Ctl) (sent : List Sent) (copies : List (Delivery Parcel)) : Type 0 where
  pub slots : MovesSlots actor now x.mail after.mail sent copies
  pub posted : All (IsPosted actor.me now) (messages_among copies)
  pub credits : All (IsCreditFor actor now) (credits_among copies)
  pub notes : map sent_of (messages_among copies) ≡ filter (λ (n : Sent). not (n.receiver == actor.me)) sent

-- as the local of a scan has it
moved_in : (v w : LocalView) → SameScan v w → HasMoved w.actor w.now w.start w.ctl w.acts.sent w.acts.posted → HasMoved v.actor v.now v.start w.ctl w.acts.sent w.acts.posted
moved_in v w same moved =
    subst (λ (a : Actor). HasMoved a v.now v.start w.ctl w.acts.sent w.acts.posted) same.actor
    (subst (λ (n : ℕ). HasMoved w.actor n v.start w.ctl w.acts.sent w.acts.posted) same.now
    (subst (λ (x : Ctl). HasMoved w.actor w.now x w.ctl w.acts.sent w.acts.posted) same.start moved))

moved_here : (w : LocalView) → IsLawful w → (v : LocalView) → IsLeft v w → IsLawful v → MovesSlots w.actor w.now w.start.mail w.ctl.mail w.acts.sent w.acts.posted
    → HasMoved w.actor w.now w.start w.ctl w.acts.sent w.acts.posted
moved_here w lawful v left begins slots =
    let mailed = left_mailed v w left begins in
    let fits = lawful.acts.0 in
    record { slots = slots; posted = mailed.posted; credits = mailed.credits; notes = fits.for_others }

module _ {D : Type 0} (p : Meaning) (drive : D → List Seat → ℕ → Drive D) (least : D → ℕ) (s : Setting D) (is : IsSetting least s) (means : IsMeaning p) where
  abbrev R : Rules Ctl Parcel D
  R = rules p drive s

  pub fired_moves : (c now : ℕ) (x : Ctl) → FitsRun s c x now → (note : FireNote) (acts : Acts) (copies : List (Delivery Parcel)) (after : Ctl)
      → (R.scan c x now).outcome ≡ Fired note acts copies after → HasMoved (actor_of s c) now x after acts.sent copies
  fired_moves c now x fits note acts copies after fired =
      let fit = fitting p drive least s is c x now fits in
      let scan = scan-of p drive least s is means c x now fit.setup fit.one in
      let f = scan.fires note acts copies after fired in
      let v : LocalView = begun p drive least s is c fit.setup x now in
      let w : LocalView = f.local in
      let begins : IsLawful v = lawful p drive least s is c x now fit in
      let ends : IsLawful w = left_lawful v w f.left begins in
      let slots = left_slotted v w f.left begins (slots_begin fit.setup (actor_of s c) now x) in
      let moved : HasMoved (actor_of s c) now x w.ctl w.acts.sent w.acts.posted = moved_in v w (left_scan v w f.left) (moved_here w ends v f.left begins slots) in
      subst (λ (y : Ctl). HasMoved (actor_of s c) now x y acts.sent copies) (sym f.after_is)
      (subst (λ (ds : List (Delivery Parcel)). HasMoved (actor_of s c) now x w.ctl acts.sent ds) (sym f.copies_are)
      (subst (λ (a : Acts). HasMoved (actor_of s c) now x w.ctl a.sent w.acts.posted) (sym f.acts_are) moved))
