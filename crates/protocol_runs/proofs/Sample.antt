-- The sample meets the premises.
use Rattle.std.proofs.Common.{◌≡◌, ◌<◌, ◌∙◌, ℕ, Bool, true, false, cond, List, Result, Ok, Err, inl, nat_le, refl, sym, ap, arith}
use Rattle.std.proofs.lemmas.Bool.{cond_both, leb-false}
use Rattle.ruby_value.specs.declared.fault.Fault.{Fault}
use Rattle.ruby_value.specs.declared.fault.Fault.TheVariants.{Invalid}
use Rattle.ruby_value.specs.declared.message.Delivery.{Delivery}
use Rattle.run_journal.specs.declared.entry.FireNote.{FireNote}
use Rattle.run_journal.specs.declared.entry.StopAt.{StopAt}
use Rattle.protocol_runs.specs.Prelude.{Acts, Fired, Full, Idle, Outcome, Stop, Tried, IsFired, IsMeaning, Rests, outcome_of, sample, taking}
use Rattle.ctl_face.specs.declared.parcel.Parcel.{Parcel}
use Rattle.ctl_face.specs.Prelude.{Ctl, LocalView, scan_view}
use Rattle.acts.specs.Prelude.{run, Done}
use Rattle.acts.proofs.Instances.{never_as_invalid}
use Rattle.acts.proofs.Left.{left_by}

-- what is known of an outcome, by which one it is
record Answers (v : LocalView) (limit : ℕ) (o : Outcome Ctl Parcel) : Type 0 where
  fires : (note : FireNote) (acts : Acts) (copies : List (Delivery Parcel)) (after : Ctl) → o ≡ Fired note acts copies after → IsFired v limit acts copies after
  idles : (after : Ctl) → o ≡ Idle after → Rests v after
  valid : (at : StopAt) → o ≡ Stop at → at.fault ≡ Invalid → ⊥

-- the fault of an outcome, if it is a stop
abbrev fault-in : Fault → Outcome Ctl Parcel → Fault
fault-in f Full = f
fault-in f (Fired note acts copies after) = f
fault-in f (Stop at) = at.fault
fault-in f (Idle after) = f

full-answers : (v : LocalView) (limit : ℕ) → Answers v limit Full
full-answers v limit = record {
  fires = λ note acts copies after is. absurd (cc is);
  idles = λ after is. absurd (cc is);
  valid = λ at is invalid. cc is;
}

fired-answers : (v : LocalView) (limit : ℕ) (d : Done Bool) → v.ctl.fired < limit → run taking v ≡ Ok d → (b : Bool) → Answers v limit (cond b (outcome_of v (Ok (record { value = true; view = d.view }))) (Idle v.ctl))
fired-answers v limit d few ran true = record {
  fires = λ note acts copies after is. record { few = few; local = d.view; left = left_by taking v d ran; acts_are = cc is; copies_are = cc is; after_is = cc is };
  idles = λ after is. absurd (cc is);
  valid = λ at is invalid. cc is;
}
fired-answers v limit d few ran false = record {
  fires = λ note acts copies after is. absurd (cc is);
  idles = λ after is. inl (sym (cc is));
  valid = λ at is invalid. cc is;
}

body-answers : (v : LocalView) (limit : ℕ) (r : Result (Done Bool) Fault) → v.ctl.fired < limit → run taking v ≡ r → Answers v limit (outcome_of v r)
body-answers v limit (Ok d) few ran = fired-answers v limit d few ran d.value
body-answers v limit (Err f) few ran = record {
  fires = λ note acts copies after is. absurd (cc is);
  idles = λ after is. absurd (cc is);
  valid = λ at is invalid.
      let same : f ≡ at.fault = ap (λ (o : Outcome Ctl Parcel). fault-in f o) is in
      never_as_invalid taking v (ran ∙ ap (λ (g : Fault). Err g) (same ∙ invalid));
}

-- no pair is tried
nothing-tried : (t : Tried) (k : ℕ) → k < 0 → ⊥
nothing-tried t k within = omega (arith, within)

sample-answers : (v : LocalView) (limit : ℕ) → Answers v limit (cond (nat_le limit v.ctl.fired) Full (outcome_of v (run taking v)))
sample-answers v limit =
    cond_both (nat_le limit v.ctl.fired) Full (outcome_of v (run taking v)) (Answers v limit) (λ _. full-answers v limit) (λ (not : nat_le limit v.ctl.fired ≡ false). body-answers v limit (run taking v) (leb-false limit v.ctl.fired not) refl)

pub sample-means : IsMeaning sample
sample-means machine setup actor now limit ctl =
    let v : LocalView = scan_view setup actor now ctl in
    let answers = sample-answers v limit in
    record {
      fires = answers.fires;
      idles = answers.idles;
      caused = λ at stop invalid. absurd (answers.valid at stop invalid);
      comes = λ t refused. absurd (nothing-tried t refused.tried.0 refused.tried.1);
    }
