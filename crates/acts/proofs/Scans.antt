-- Each act stays in the scan, keeps marks, and never ends as `invalid`; so does each body.
use Rattle.std.proofs.Common.{◌≡◌, ◌≤◌, ℕ, Option, None, Some, Result, Ok, Err, refl, sym, subst, ◌∙◌, slice_get}
use Rattle.std.proofs.lemmas.Bool.{cond_both}
use Rattle.std.specs.Option.{ok_or, option_and_then}
use Rattle.ruby_value.specs.declared.fault.Fault.{Fault}
use Rattle.ruby_value.specs.declared.fault.Fault.TheVariants.{Front as NoFront, Invalid, Probe as NoProbe, Reference}
use Rattle.ctl_face.specs.Prelude.{avail, least_used_in, probe, fields_behind, get, LocalView, SameScan, front_now, table_at, allocate, block_after_write, read_back, write_back, deallocate, enqueue, reference_to, pop, recycle, set, stall, touch}
use Rattle.acts.specs.declared.body_fault.BodyFault.{BodyFault}
use Rattle.acts.specs.declared.body_fault.BodyFault.TheVariants as own
use Rattle.acts.specs.Prelude.{Act, Now, Me, Get, Set, Lookup, Avail, Probe, Allocate, Deallocate, Touch, Free, Ready, Front, Pop, Stall, Wake, WakeAll, Recycle, Send, Slots, ReadBack, WriteBack, State, SetState, Again, answer, Acting, ends, stops, acts, fault_of, follow, run, HoldsAfter, Done, changes, does, does_served, reads, serves}
use Rattle.acts.proofs.Laws.{all_keeps, keeps_where_served}
use Rattle.acts.proofs.Effects.{Changes, Effect, NotInvalid, again_effect, allocate_effect, deallocate_effect, pop_effect, read_effect, recycle_effect, send_effect, set_effect, set_state_effect, stall_effect, touch_effect, wake_effect, write_effect}
use Rattle.acts.proofs.Marks.{marks_kept}

-- what an act does and answers is an effect
abbrev pub DoneEffect : {A : Type 0} → LocalView → Result (Done A) Fault → Type 0
DoneEffect v (Ok d) = Changes v d.view
DoneEffect v (Err f) = ¬ (f ≡ Invalid)

unchanged : (v : LocalView) → Changes v v
unchanged v = record {
  scan = record { machine = refl; actor = refl; now = refl; start = refl };
  counts = record { fired = refl; stopped = refl };
  marks = marks_kept v.ctl.mail.marks v.now;
  marked = λ is. is;
}

module _ {A : Type 0} (v : LocalView) where
  changed : (x : A) (want : Result LocalView Fault) → Effect v want → DoneEffect v (changes x want)
  changed x (Ok w) does = does
  changed x (Err f) valid = valid

  read : (want : Result A Fault) → NotInvalid want → DoneEffect v (reads v want)
  read (Ok x) valid = unchanged v
  read (Err f) valid = valid

or_fault : {A : Type 0} (o : Option A) (f : Fault) → ¬ (f ≡ Invalid) → NotInvalid (ok_or o f)
or_fault None f valid = valid
or_fault (Some x) f valid = tt

pub act_effect : (a : Act) (v : LocalView) → DoneEffect v (does_served a v)
act_effect Now v = unchanged v
act_effect Me v = unchanged v
act_effect (Get r field) v = read v (get v r field) (or_fault (option_and_then (λ fields. slice_get fields field) (fields_behind v r)) Reference (λ is. cc is))
act_effect (Set r field value) v = changed v tt (set v r field value) (set_effect v r field value)
act_effect (Lookup table line) v = unchanged v
act_effect (Avail table line) v = unchanged v
act_effect (Probe table line) v =
    read v (probe v table line)
    (cond_both (avail v table line) (Err NoProbe) (ok_or (least_used_in (table_at v table) line) NoProbe) (NotInvalid {X = ℕ}) (λ _ is. cc is) (λ _. or_fault (least_used_in (table_at v table) line) NoProbe (λ is. cc is)))
act_effect (Allocate table line) v = changed v (reference_to table line) (allocate v table line) (allocate_effect v table line)
act_effect (Deallocate table line) v = changed v tt (deallocate v table line) (deallocate_effect v table line)
act_effect (Touch table line) v = changed v tt (touch v table line) (touch_effect v table line)
act_effect (Free table) v = unchanged v
act_effect (Ready buffer) v = unchanged v
act_effect (Front buffer) v = read v (ok_or (front_now v buffer) NoFront) (or_fault (front_now v buffer) NoFront (λ is. cc is))
act_effect (Pop buffer) v = changed v tt (pop v buffer) (pop_effect v buffer)
act_effect (Stall buffer line) v = changed v tt (stall v buffer line) (stall_effect v buffer line)
act_effect (Wake line) v = wake_effect v _
act_effect WakeAll v = wake_effect v _
act_effect (Recycle buffer latency) v = changed v tt (recycle v buffer latency) (recycle_effect v buffer latency)
act_effect (Send buffer latency fields) v = changed v tt (enqueue v buffer latency fields) (send_effect v buffer latency fields)
act_effect (Slots buffer) v = unchanged v
act_effect (ReadBack line block) v = changed v tt (read_back v line block) (read_effect v line block)
act_effect (WriteBack line block) v = changed v (block_after_write v line block) (write_back v line block) (write_effect v line block)
act_effect (State line) v = unchanged v
act_effect (SetState line new) v = set_state_effect v line new
act_effect Again v = again_effect v

-- what a body does is an effect too
pub same_scan : (u v w : LocalView) → SameScan u v → SameScan v w → SameScan u w
same_scan u v w first second = record {
  machine = second.machine ∙ first.machine;
  actor = second.actor ∙ first.actor;
  now = second.now ∙ first.now;
  start = second.start ∙ first.start;
}

both : (u v w : LocalView) → Changes u v → Changes v w → Changes u w
both u v w first second = record {
  scan = same_scan u v w first.scan second.scan;
  counts = record { fired = second.counts.fired ∙ first.counts.fired; stopped = second.counts.stopped ∙ first.counts.stopped };
  marks = record {
    stay = λ cycle has. second.marks.stay cycle (first.marks.stay cycle has);
    none_due = λ cycle early. second.marks.none_due cycle (subst (λ (n : ℕ). cycle ≤ n) (sym first.scan.now) early) ∙ first.marks.none_due cycle early;
  };
  marked = λ is. second.marked (first.marked is);
}

after_changes : (u : LocalView) → {A : Type 0} (v : LocalView) (r : Result (Done A) Fault) → Changes u v → DoneEffect v r → HoldsAfter (Changes u) r
after_changes u v (Ok d) first second = both u v d.view first second
after_changes u v (Err f) first valid = tt

pub body_effect : {A : Type 0} (p : Acting A) (v : LocalView) → HoldsAfter (Changes v) (run p v)
body_effect p v =
    all_keeps (Changes v) (keeps_where_served (Changes v) (λ a w served is. after_changes v w (does_served a w) is (act_effect a w))) p v (unchanged v)

-- what holds of each effect holds after a body
module _ {A : Type 0} (I J : LocalView → Type 0) (holds : (w : LocalView) → I w → J w) where
  pub weaker_after : (r : Result (Done A) Fault) → HoldsAfter I r → HoldsAfter J r
  weaker_after (Ok d) is = holds d.view is
  weaker_after (Err f) is = tt

-- no fault of a body's own is `invalid`
own_fault : (f : BodyFault) → ¬ (fault_of f ≡ Invalid)
own_fault own.Assert = λ is. cc is
own_fault (own.Error text) = λ is. cc is
own_fault own.Overflow = λ is. cc is
own_fault own.Reference = λ is. cc is

module _ {A B : Type 0} where
  follows : (r : Result (Done A) Fault) (next : A → LocalView → Result B Fault) → NotInvalid r → ((x : A) (w : LocalView) → NotInvalid (next x w)) → NotInvalid (follow r next)
  follows (Ok d) next valid rest = rest d.value d.view
  follows (Err f) next valid rest = valid

valid_effect : {A : Type 0} (v : LocalView) (r : Result (Done A) Fault) → DoneEffect v r → NotInvalid r
valid_effect v (Ok d) is = tt
valid_effect v (Err f) valid = valid

valid_act : (a : Act) (v : LocalView) → NotInvalid (does a v)
unfolding does
valid_act a v = cond_both (serves v.machine a) (does_served a v) (Err Reference) (NotInvalid {X = Done (answer a)}) (λ _. valid_effect v (does_served a v) (act_effect a v)) (λ _ is. cc is)

pub never_invalid : {A : Type 0} (p : Acting A) (v : LocalView) → NotInvalid (run p v)
unfolding run
never_invalid (ends x) v = tt
never_invalid (stops f) v = own_fault f
never_invalid (acts a more) v = follows (does a v) (λ x w. run (more x) w) (valid_act a v) (λ x w. never_invalid (more x) w)

pub not_invalid : {A : Type 0} (r : Result (Done A) Fault) → NotInvalid r → r ≡ Err Invalid → ⊥
not_invalid (Ok d) valid is = cc is
not_invalid (Err f) valid is = let same : f ≡ Invalid = cc is in valid same
