-- What a scan leaves that fires nothing.
use Rattle.std.proofs.Common.{◌≡◌, ◌⊎◌, inl, inr, ℕ, Bool, true, false, Result, Ok, Err, nat_le, refl}
use Rattle.run_journal.specs.declared.entry.StopAt.{StopAt}
use Rattle.run_journal.specs.declared.entry.FireNote.{FireNote}
use Rattle.ctl_face.specs.Prelude.{again, LocalView}
use Rattle.acts.specs.Prelude.{Done}
use Rattle.body_meaning.specs.Prelude.{Reading, Scanned, by_outcome, by_try, left_idle, scan}
use Rattle.body_meaning.specs.declared.frame.RoundEnd.{RoundEnd}
use Rattle.body_meaning.specs.declared.frame.RoundEnd.TheVariants.{Fired, Idle, Full, Stop}
use Rattle.body_meaning.specs.declared.frame.Tried.{Tried}
use Rattle.body_meaning.specs.declared.frame.Tried.TheVariants.{Waits, Fires}

-- it fired, or the controller is as it was, or it waits
pub data LeavesIt (v : LocalView) : Scanned → Type 0 where
  fires_one : (note : FireNote) (w : LocalView) → LeavesIt v (record { end = Fired note; view = w })
  leaves : (end : RoundEnd) → LeavesIt v (record { end = end; view = v })
  marks : LeavesIt v (record { end = Idle; view = again v })

left_either : (v : LocalView) (b : Bool) (w : LocalView) → w.acts.again ≡ b → LeavesIt v (record { end = Idle; view = left_idle v w })
left_either v true w is = rw is marks
left_either v false w is = rw is (leaves Idle)

of_try : (v : LocalView) (t : Tried) (w : LocalView) → LeavesIt v (by_try v t w)
of_try v (Fires note) w = fires_one note w
of_try v Waits w = left_either v w.acts.again w refl

of_outcome : (v : LocalView) (r : Result (Done Tried) StopAt) → LeavesIt v (by_outcome v r)
of_outcome v (Err at) = leaves (Stop at)
of_outcome v (Ok d) = of_try v d.value d.view

module _ (s : Reading) (limit done : ℕ) (v : LocalView) where
  scan_leaves_by : (b : Bool) → nat_le limit done ≡ b → LeavesIt v (scan s limit done v)
  scan_leaves_by true is = rw is (leaves Full)
  scan_leaves_by false is = rw is (of_outcome v _)

  pub scan_leaves : LeavesIt v (scan s limit done v)
  scan_leaves = scan_leaves_by (nat_le limit done) refl

pub stopped_leaves : (v : LocalView) (r : Scanned) (at : StopAt) → LeavesIt v r → r.end ≡ Stop at → r.view ≡ v
stopped_leaves v _ at (fires_one note w) is = absurd (cc is)
stopped_leaves v _ at (leaves end) is = refl
stopped_leaves v _ at marks is = absurd (cc is)

pub full_leaves : (v : LocalView) (r : Scanned) → LeavesIt v r → r.end ≡ Full → r.view ≡ v
full_leaves v _ (fires_one note w) is = absurd (cc is)
full_leaves v _ (leaves end) is = refl
full_leaves v _ marks is = absurd (cc is)

pub idle_leaves : (v : LocalView) (r : Scanned) → LeavesIt v r → r.end ≡ Idle → (r.view ≡ v) ⊎ (r.view ≡ again v)
idle_leaves v _ (fires_one note w) is = absurd (cc is)
idle_leaves v _ (leaves end) is = inl refl
idle_leaves v _ marks is = inr refl
