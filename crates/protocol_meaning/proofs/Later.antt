-- What comes later is nothing to a try, and so to a scan: an induction over what a scan does as data, with one case for acts.
use Rattle.std.proofs.Common.{◌≡◌, ◌<◌, ◌∙◌, ◌∷◌, ℕ, All, Bool, true, false, List, Result, Ok, Err, nat_le, refl, sym, ap, subst}
use Rattle.ruby_value.specs.declared.fault.Fault.{Fault}
use Rattle.run_journal.specs.declared.entry.StopAt.{StopAt}
use Rattle.ctl_face.specs.declared.parcel.Credit.{Credit}
use Rattle.ctl_face.specs.Prelude.{again, Ctl, IsLawful, Actor, LocalView, SameScan}
use Rattle.acts.specs.Prelude.{Act, Again, answer, Acting, ends as ends_body, acts as acts_in, follow, run, HoldsAfter, Done, does, Added, AreNew, IsNew, after_adding, with_added}
use Rattle.acts.proofs.Framed.{frame}
use Rattle.acts.proofs.Instances.{stays_in_scan, stays_lawful}
use Rattle.body_meaning.specs.Prelude.{Reading, Scanned, by_outcome, by_try, left_idle, pairs_tried, ports_tried, scan, Pair, Trying, ends, stops, acts, looks_up, follow_pairs, follow_scan, pairs_of, run_scan}
use Rattle.body_meaning.specs.declared.frame.RoundEnd.TheVariants.{Idle}
use Rattle.body_meaning.specs.declared.frame.Known.{Known}
use Rattle.body_meaning.specs.declared.frame.Tried.{Tried}
use Rattle.body_meaning.specs.declared.frame.Tried.TheVariants.{Waits, Fires}
use Rattle.protocol_meaning.specs.Prelude.{scanned_with}
use Rattle.protocol_meaning.proofs.Left.{does_again}

-- One act, as a body.

abbrev alone : (a : Act) → Acting (answer a)
alone a = acts_in a (λ x. ends_body x)

followed : {A : Type 0} (r : Result (Done A) Fault) → follow r (λ x w. run (ends_body x) w) ≡ r
unfolding run
followed (Ok d) = refl
followed (Err f) = refl

done_alone : (a : Act) (v : LocalView) → run (alone a) v ≡ does a v
unfolding run does
done_alone a v = followed (does a v)

new_in : (me other_me now other_now : ℕ) (start other_start : Ctl) (more : Added) → other_me ≡ me → other_now ≡ now → other_start ≡ start
    → (k : _) → IsNew me now start.mail.inbox k → IsNew other_me other_now other_start.mail.inbox k
new_in me other_me now other_now start other_start more same_me same_now same_start k new = rw (same_me, same_now, same_start) new

still_new : (v w : LocalView) (more : Added) → SameScan v w → AreNew v more → AreNew w more
still_new v w more scan new = record {
  each = λ k d within.
      new_in v.actor.me w.actor.me v.now w.now v.start w.start more (ap (λ (a : Actor). a.me) scan.actor) scan.now scan.start _ (new.each k d within);
  credits_later = subst (λ (n : ℕ). All (λ (c : Credit). n < c.arrival) more.credits) (sym scan.now) new.credits_later;
  differ = new.differ;
}

module _ (more : Added) where
  act_framed : (a : Act) (v : LocalView) → IsLawful v → AreNew v more → does a (with_added more v) ≡ after_adding more (does a v)
  act_framed a v lawful new =
      sym (done_alone a (with_added more v)) ∙ frame more (alone a) v lawful new ∙ ap (after_adding more) (done_alone a v)

  act_lawful : (a : Act) (v : LocalView) → IsLawful v → HoldsAfter IsLawful (does a v)
  act_lawful a v lawful = subst (HoldsAfter IsLawful) (done_alone a v) (stays_lawful (alone a) v lawful)

  act_in_scan : (a : Act) (v : LocalView) → HoldsAfter (SameScan v) (does a v)
  act_in_scan a v = subst (HoldsAfter (SameScan v)) (done_alone a v) (stays_in_scan (alone a) v)

  abbrev after_scan : {A : Type 0} → Result (Done A) StopAt → Result (Done A) StopAt
  after_scan (Ok d) = Ok (record { value = d.value; view = with_added more d.view })
  after_scan (Err at) = Err at

  module _ {A : Type 0} where
    act_case : (k : Known) (a : Act) (v : LocalView) (next : answer a → Trying A) → AreNew v more
        → ((x : answer a) (u : LocalView) → IsLawful u → AreNew u more → run_scan (next x) (with_added more u) ≡ after_scan (run_scan (next x) u))
        → (r : Result (Done (answer a)) Fault) → HoldsAfter IsLawful r → HoldsAfter (SameScan v) r
        → follow_scan k (after_adding more r) (λ x u. run_scan (next x) u) ≡ after_scan (follow_scan k r (λ x u. run_scan (next x) u))
    act_case k a v next new rest (Ok d) lawful scan = rest d.value d.view lawful (still_new v d.view more scan new)
    act_case k a v next new rest (Err f) lawful scan = refl

    pub scan_framed : (p : Trying A) (v : LocalView) → IsLawful v → AreNew v more → run_scan p (with_added more v) ≡ after_scan (run_scan p v)
    unfolding run_scan
    scan_framed (ends x) v lawful new = refl
    scan_framed (stops at) v lawful new = refl
    scan_framed (acts k a next) v lawful new =
        ap (λ (r : Result (Done (answer a)) Fault). follow_scan k r (λ x u. run_scan (next x) u)) (act_framed a v lawful new)
        ∙ act_case k a v next new (λ x u. scan_framed (next x) u) (does a v) (act_lawful a v lawful) (act_in_scan a v)
    scan_framed (looks_up pair rest) v lawful new = scan_framed rest v lawful new

    pairs_case : (a : Act) (v : LocalView) (next : answer a → Trying A) → AreNew v more
        → ((x : answer a) (u : LocalView) → IsLawful u → AreNew u more → pairs_of (next x) (with_added more u) ≡ pairs_of (next x) u)
        → (r : Result (Done (answer a)) Fault) → HoldsAfter IsLawful r → HoldsAfter (SameScan v) r
        → follow_pairs (after_adding more r) (λ x u. pairs_of (next x) u) ≡ follow_pairs r (λ x u. pairs_of (next x) u)
    pairs_case a v next new rest (Ok d) lawful scan = rest d.value d.view lawful (still_new v d.view more scan new)
    pairs_case a v next new rest (Err f) lawful scan = refl

    pub pairs_framed : (p : Trying A) (v : LocalView) → IsLawful v → AreNew v more → pairs_of p (with_added more v) ≡ pairs_of p v
    unfolding pairs_of
    pairs_framed (ends x) v lawful new = refl
    pairs_framed (stops at) v lawful new = refl
    pairs_framed (acts k a next) v lawful new =
        ap (λ (r : Result (Done (answer a)) Fault). follow_pairs r (λ x u. pairs_of (next x) u)) (act_framed a v lawful new)
        ∙ pairs_case a v next new (λ x u. pairs_framed (next x) u) (does a v) (act_lawful a v lawful) (act_in_scan a v)
    pairs_framed (looks_up pair rest) v lawful new = ap (λ (ps : List Pair). pair ∷ ps) (pairs_framed rest v lawful new)

  -- How a scan ends.

  again_framed : (v : LocalView) → IsLawful v → AreNew v more → again (with_added more v) ≡ with_added more (again v)
  again_framed v lawful new =
      let same : ◌≡◌ {A = Result (Done (Unit {0})) Fault} (Ok (record { value = tt; view = again (with_added more v) }))
      (Ok (record { value = tt; view = with_added more (again v) })) =
      sym (does_again (with_added more v)) ∙ act_framed Again v lawful new ∙ ap (after_adding more) (does_again v) in
      let done : ◌≡◌ {A = Done (Unit {0})} (record { value = tt; view = again (with_added more v) }) (record { value = tt; view = with_added more (again v) }) = cc same in
      ap (λ (d : Done (Unit {0})). d.view) done

  abbrev by_idle : LocalView → Scanned
  by_idle u = record { end = Idle; view = u }

  module _ (v : LocalView) (lawful : IsLawful v) (new : AreNew v more) where
    idle_framed : (w : LocalView) (b : Bool) → w.acts.again ≡ b → left_idle (with_added more v) (with_added more w) ≡ with_added more (left_idle v w)
    idle_framed w true is = rw is (again_framed v lawful new)
    idle_framed w false is = rw is refl

    try_framed : (t : Tried) (w : LocalView) → by_try (with_added more v) t (with_added more w) ≡ scanned_with more (by_try v t w)
    try_framed (Fires note) w = refl
    try_framed Waits w = ap (λ (u : LocalView). by_idle u) (idle_framed w w.acts.again refl)

    outcome_framed : (r : Result (Done Tried) StopAt) → by_outcome (with_added more v) (after_scan r) ≡ scanned_with more (by_outcome v r)
    outcome_framed (Err at) = refl
    outcome_framed (Ok d) = try_framed d.value d.view

    module _ (s : Reading) (limit fired : ℕ) where
      framed_by_limit : (b : Bool) → nat_le limit fired ≡ b → scan s limit fired (with_added more v) ≡ scanned_with more (scan s limit fired v)
      framed_by_limit true is = rw is refl
      framed_by_limit false is =
          rw is
          (ap (by_outcome (with_added more v)) (scan_framed (ports_tried s s.machine.in_ports) v lawful new)
          ∙ outcome_framed (run_scan (ports_tried s s.machine.in_ports) v))

      pub whole_framed : scan s limit fired (with_added more v) ≡ scanned_with more (scan s limit fired v)
      whole_framed = framed_by_limit (nat_le limit fired) refl

      tried_by_limit : (b : Bool) → nat_le limit fired ≡ b → pairs_tried s limit fired (with_added more v) ≡ pairs_tried s limit fired v
      tried_by_limit true is = rw is refl
      tried_by_limit false is = rw is (pairs_framed (ports_tried s s.machine.in_ports) v lawful new)

      pub whole_tried : pairs_tried s limit fired (with_added more v) ≡ pairs_tried s limit fired v
      whole_tried = tried_by_limit (nat_le limit fired) refl
