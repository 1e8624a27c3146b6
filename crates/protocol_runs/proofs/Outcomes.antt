-- What a turn does is one of the cases of an outcome.
use Rattle.std.proofs.Common.{◌≡◌, ◌≤◌, ◌+◌, ℕ, Bool, true, false, Option, None, Some, List, [], ◌∷◌, cond, nat_lt, length, ◌∙◌, slice_get, refl, ap, ⊎_elim, get_or, arith}
use Rattle.std.specs.List.{position_or_len}
use Rattle.std.proofs.lemmas.Bool.{cases_lt, cond-true, lt-ltb, ltb-true, ltb-false}
use Rattle.std.proofs.lemmas.List.Quantifiers.{position-Some}
use Rattle.std.proofs.lemmas.List.Sums.{fails_before_first}
use Rattle.std.proofs.lemmas.Option.{slice_get-get_or, get_or_from_slice_get, slice_get_within, slice_get-map}
use Rattle.std.specs.Option.{option_map}
use Rattle.ruby_value.specs.declared.fault.Finding.{Finding}
use Rattle.ruby_value.specs.declared.fault.Finding.TheVariants as finding
use Rattle.run_journal.specs.declared.event.Event.{Event}
use Rattle.run_journal.specs.declared.event.Event.TheVariants.{Turn}
use Rattle.run_journal.specs.declared.verdict.Verdict.{Verdict}
use Rattle.run_journal.specs.declared.verdict.Verdict.TheVariants as verdict
use Rattle.protocol_runs.specs.Prelude.{Rules, Place, World, journal_limit, mail_limit, too_long, too_full, first_of, verdict_after, least_stopped, begun_place, Stepped, next_world, next_in, driver_turn_in, step, is_turn, wakes_at, KeepsMarks, Change, Moves, Closes, Turns, IsLeastStopped, HasNoneStopped, driven_world, Finds, messages_in, IsNextFrom, IsWithin, Incoherent, Deadlock, Passed, Quiet, Cycles, Journal, Mail, entry_of, IsOutcome, WakesAsMarked, StopsAt, EndsWith, ContinuesAt}
use Rattle.protocol_runs.proofs.NextCycles.{next_cycle-is}
use Rattle.protocol_runs.proofs.Steps.{step-changes, move-quiet}

module _ {C M D : Type 0} (r : Rules C M D) where
  first-stopped : (places : List (Place C)) (c : ℕ) → least_stopped r places ≡ Some c → IsLeastStopped r places c
  first-stopped [] c is = absurd (cc is)
  first-stopped (q ∷ places) c is =
      let f : Place C → Bool = λ p. r.stopped p.controller in
      let found = position-Some f (q ∷ places) c q is in
      record {
        has = (get_or (q ∷ places) c q, slice_get-get_or (q ∷ places) c q found.0, found.1);
        least = λ other (p, there, stopped).
            ⊎_elim
            (λ below. absurd (cc (found.2 other below, ap f (get_or_from_slice_get (q ∷ places) other p q there), stopped)))
            (λ least. least)
            (cases_lt other c);
      }

  none-stopped : (places : List (Place C)) → least_stopped r places ≡ None → HasNoneStopped r places
  none-stopped places none c (p, there, stopped) =
      let f : Place C → Bool = λ q. r.stopped q.controller in
      let i : ℕ = position_or_len f places in
      let within = slice_get_within places c p there in
      ⊎_elim
      (λ inside. cc (none, cond-true (nat_lt i (length places)) (Some i) None (lt-ltb i (length places) inside)))
      (λ past. cc (fails_before_first f places c p (omega (arith, within)), ap f (get_or_from_slice_get places c p p there), stopped))
      (cases_lt i (length places))

  module _ (n : ℕ) (w : World C D) (nobody : HasNoneStopped r w.places) where
    -- the end of a turn, with this next cycle and verdict
    abbrev EndsIn : Option ℕ → Option Verdict → Type 0
    EndsIn next o = IsOutcome r n w (record { world = next_world r (driven_world r w) next o; entry = Some (entry_of r w o) })

    by-mail : (next : ℕ) (b : Bool) → nat_lt mail_limit (messages_in r w) ≡ b → IsWithin r w next → n + 1 ≤ journal_limit
        → EndsIn (Some next) (first_of (cond b (Some (verdict.Mail w.now (messages_in r w))) None ∷ []))
    by-mail next true is within short = EndsWith (verdict.Mail w.now (messages_in r w)) nobody (Mail next within short (ltb-true mail_limit (messages_in r w) is))
    by-mail next false is within short =
        ContinuesAt next nobody (record { within = within; journal = short; mail = ltb-false mail_limit (messages_in r w) is })

    by-journal : (next : ℕ) (b : Bool) → nat_lt journal_limit (n + 1) ≡ b → IsWithin r w next
        → EndsIn (Some next) (first_of (cond b (Some (verdict.Journal w.now (n + 1))) None ∷ too_full w.now (messages_in r w) ∷ []))
    by-journal next true is within = EndsWith (verdict.Journal w.now (n + 1)) nobody (Journal next within (ltb-true journal_limit (n + 1) is))
    by-journal next false is within = by-mail next (nat_lt mail_limit (messages_in r w)) refl within (ltb-false journal_limit (n + 1) is)

    by-bound : (next : ℕ) (b : Bool) → nat_lt r.cycles next ≡ b → Finds r w None → IsNextFrom r w (Some next)
        → EndsIn (Some next) (first_of (cond b (Some (verdict.Cycles w.now)) None ∷ too_long w.now (n + 1) ∷ too_full w.now (messages_in r w) ∷ []))
    by-bound next true is nothing from = EndsWith (verdict.Cycles w.now) nobody (Cycles next nothing from (ltb-true r.cycles next is))
    by-bound next false is nothing from =
        by-journal next (nat_lt journal_limit (n + 1)) refl (record { nothing = nothing; next_cycle = from; bound = ltb-false r.cycles next is })

    by-finding : (found : Option Finding) (next : Option ℕ) → Finds r w found → IsNextFrom r w next
        → EndsIn next (verdict_after w.now r.cycles next found (n + 1) (messages_in r w))
    by-finding (Some (finding.Incoherent c line offset expected byte)) next finds from = EndsWith _ nobody (Incoherent c line offset expected byte finds)
    by-finding (Some (finding.Deadlock c line issued)) next finds from = EndsWith _ nobody (Deadlock c line issued finds)
    by-finding (Some (finding.Passed checks)) next finds from = EndsWith _ nobody (Passed checks finds)
    by-finding None None finds from = EndsWith (verdict.Quiet w.now) nobody (Quiet finds from)
    by-finding None (Some next) finds from = by-bound next (nat_lt r.cycles next) refl finds from

  pub change-outcome : (n : ℕ) (w : World C D) (e : Event) (st : Stepped C D) → Change r n w e st → is_turn e ≡ true → IsOutcome r n w st
  change-outcome n w e st (Moves c p f m there move) turns = absurd (cc (turns, move-quiet r w.now c p e m move))
  change-outcome n w e st (Closes worker c idle least) turns = StopsAt c (first-stopped w.places c least)
  change-outcome n w e st (Turns worker idle least) turns =
      let v : World C D = driven_world r w in
      by-finding n w (none-stopped w.places least) (driver_turn_in r w).finding (next_in r v) refl (next_cycle-is r v.now v.next v.places)

  -- whatever a lawful turn does is an outcome
  pub turn-outcome : (n : ℕ) (w : World C D) (worker : ℕ) (st : Stepped C D) → step r n w (Turn worker) ≡ Some st → IsOutcome r n w st
  turn-outcome n w worker st is = change-outcome n w (Turn worker) st (step-changes r n w (Turn worker) st is) refl

  -- and no mark is lost in it
  begun-wakes : KeepsMarks r → (next : ℕ) (o : Option (Place C)) → wakes_at r next (option_map (begun_place r next) o) ≡ wakes_at r next o
  begun-wakes keeps next None = refl
  begun-wakes keeps next (Some p) = keeps.begins p.controller next next (omega arith)

  wakes : KeepsMarks r → (n : ℕ) (w : World C D) (st : Stepped C D) → IsOutcome r n w st → st.world.verdict ≡ None → WakesAsMarked r w st.world
  wakes keeps n w st (StopsAt c least) goes d = absurd (cc goes)
  wakes keeps n w st (EndsWith v nobody comes) goes d = absurd (cc goes)
  wakes keeps n w st (ContinuesAt next nobody on) goes d =
      ap (λ (o : Option (Place C)). wakes_at r next o) (slice_get-map (begun_place r next) (driven_world r w).places d)
      ∙ begun-wakes keeps next (slice_get (driven_world r w).places d)

  pub turn-wakes : KeepsMarks r → (n : ℕ) (w : World C D) (worker : ℕ) (st : Stepped C D) → step r n w (Turn worker) ≡ Some st
      → st.world.verdict ≡ None → WakesAsMarked r w st.world
  turn-wakes keeps n w worker st is goes = wakes keeps n w st (turn-outcome n w worker st is) goes
