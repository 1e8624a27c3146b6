-- How many messages are in inboxes in a run; and that a driver has issued few requests where a run goes on: after each turn with which it
-- went on there were few messages in inboxes, and the journal was short.
use Rattle.std.proofs.Common.{◌≡◌, ◌≤◌, ◌+◌, ◌*◌, ◌++◌, ℕ, Bool, true, List, [], ◌∷◌, Option, None, Some, length, refl, ◌∙◌, ap, arith}
use Rattle.std.specs.Option.{option_to_list}
use Rattle.ruby_value.specs.declared.message.MsgNo.{MsgNo}
use Rattle.std.proofs.lemmas.List.{append-nil, length-append}
use Rattle.run_journal.specs.declared.entry.Entry.{Entry}
use Rattle.run_journal.specs.declared.event.Event.{Event}
use Rattle.run_journal.specs.declared.event.Event.TheVariants.{Turn}
use Rattle.run_journal.specs.declared.verdict.Verdict.{Verdict}
use Rattle.protocol_runs.specs.Prelude.{consumed_in, consumed_numbers, sent_in, sent_numbers, Change, Closes, IsIdle, Moves, Turns, ContinuesAt, EndsWith, IsOutcome, StopsAt, driven_world, entry_of, messages_in, CarriesMail, IsSound, DriverTurn, Mailed, Rules, IsRun, Ran, start, Stepped, after_driver, begun_place, delivery_numbers, driver_turn_in, next_in, next_world, verdict_in, held_mail, least_stopped, Place, World}
use Rattle.protocol_runs.proofs.Accounted.{kept-along, requests-count}
use Rattle.protocol_runs.proofs.Outcomes.{change-outcome}
use Rattle.protocol_runs.proofs.Runs.{Goes, hold-along, run-more, with_step}
use Rattle.protocol_runs.proofs.Steps.{change-steps}
use Rattle.protocol_runs.proofs.Tallies.{flat_map-same, tally, tally-more, tally-true}

module _ {C M D : Type 0} (r : Rules C M D) (Fits : ℕ → C → ℕ → Type 0) (Suits : ℕ → M → ℕ → Type 0) (Leads : D → ℕ → ℕ → Type 0)
    (sound : IsSound r Fits Suits Leads) (carries : CarriesMail r Fits Suits Leads) where
  next-mail : (w : World C D) (next : Option ℕ) (v : Option Verdict) → held_mail r (next_world r w next v).places ≡ held_mail r w.places
  next-mail w next (Some v) = refl
  next-mail w None None = refl
  next-mail w (Some now) None =
      flat_map-same (λ (p : Place C). r.mail p.controller) (begun_place r now) (λ p. let keeps = carries.begins p.controller now in keeps.mail) w.places

  -- what was sent is in an inbox, or consumed
  pub mail-counts : (history : List Event) (w : World C D) (journal : List Entry) → IsRun r history w journal
      → length (held_mail r w.places) + length (consumed_numbers journal) ≡ length (sent_numbers journal)
  mail-counts history w journal is =
      let kept = kept-along r Fits Suits Leads sound carries history w journal is in
      omega (arith, kept.moved (λ n. true), tally-true (sent_numbers journal), tally-true (consumed_numbers journal), tally-true (held_mail r w.places))

  -- and so it is once the driver has acted, with what it issues
  pub turn-counts : (history : List Event) (w : World C D) (journal : List Entry) → IsRun r history w journal → w.verdict ≡ None
      → IsIdle r w → least_stopped r w.places ≡ None
      → messages_in r w + length (consumed_numbers journal) ≡ length (sent_numbers journal) + length (driver_turn_in r w).requests
  turn-counts history w journal is running idle none =
      let d : DriverTurn C M D = driver_turn_in r w in
      let v : World C D = driven_world r w in
      let st : Stepped C D = after_driver r (length journal) v d in
      let e : Entry = entry_of r w (verdict_in r (length journal) v d.finding) in
      let stepped = change-steps r (length journal) w (Turn 0) st running (Turns 0 idle none) in
      let after = mail-counts (history ++ Turn 0 ∷ []) st.world (journal ++ e ∷ []) (run-more r history (Turn 0) w journal st is stepped) in
      let same : length (held_mail r st.world.places) ≡ messages_in r w =
      ap (λ (ms : List Mailed). length ms) (next-mail v (next_in r v) (verdict_in r (length journal) v d.finding)) in
      let all : MsgNo → Bool = λ n. true in
      let more = tally-more all sent_in journal (e ∷ []) in
      let less = tally-more all consumed_in journal (e ∷ []) in
      let own : tally all (sent_numbers (e ∷ [])) ≡ length d.requests =
      tally-true (sent_numbers (e ∷ []))
      ∙ ap (λ (ns : List MsgNo). length ns) (append-nil (delivery_numbers r d.requests))
      ∙ requests-count r Fits Suits Leads sound carries history w journal is running in
      omega (arith, after, same, more, less, own, tally-true (sent_numbers (journal ++ e ∷ [])), tally-true (consumed_numbers (journal ++ e ∷ [])), tally-true (sent_numbers journal), tally-true (consumed_numbers journal))

  -- a run that goes on has had few turns, and at each few requests were issued
  record HasFew (issued entries : ℕ) : Type 0 where
    turns : ℕ
    each : issued ≤ turns * 500000
    so_far : turns ≤ entries
    few : turns ≤ 1000000

  outcome-few : (w : World C D) (journal : List Entry) (st : Stepped C D) → IsOutcome r (length journal) w st → HasFew w.issued (length journal)
      → length (driver_turn_in r w).requests ≤ messages_in r w → st.world.verdict ≡ None
      → HasFew st.world.issued (length (journal ++ option_to_list st.entry))
  outcome-few w journal st (StopsAt c least) few less goes = absurd (cc goes)
  outcome-few w journal st (EndsWith v nobody comes) few less goes = absurd (cc goes)
  outcome-few w journal st (ContinuesAt next nobody on) few less goes =
      let longer = length-append journal (entry_of r w None ∷ []) in
      record {
        turns = few.turns + 1;
        each = omega (arith, few.each, less, on.mail);
        so_far = omega (arith, few.so_far, longer);
        few = omega (arith, few.so_far, on.journal);
      }

  change-few : (history : List Event) (w : World C D) (journal : List Entry) → IsRun r history w journal → (e : Event) (st : Stepped C D)
      → Change r (length journal) w e st → w.verdict ≡ None → HasFew w.issued (length journal) → st.world.verdict ≡ None
      → HasFew st.world.issued (length (journal ++ option_to_list st.entry))
  change-few history w journal is e st (Moves c p f m there move) running few goes =
      let longer = length-append journal (option_to_list m.entry) in
      record { turns = few.turns; each = few.each; so_far = omega (arith, few.so_far, longer); few = few.few }
  change-few history w journal is e st (Closes worker c idle least) running few goes = absurd (cc goes)
  change-few history w journal is e st (Turns worker idle none) running few goes =
      let counts = turn-counts history w journal is running idle none in
      let before = mail-counts history w journal is in
      outcome-few w journal st (change-outcome r (length journal) w e st (Turns worker idle none) refl) few (omega (arith, counts, before)) goes

  record IsKnown (x : Ran C D) : Type 0 where
    history : List Event
    is : IsRun r history x.world x.journal
    few : x.world.verdict ≡ None → HasFew x.world.issued (length x.journal)

  step-known : (x : Ran C D) (e : Event) (st : Stepped C D) → Goes r x e st → IsKnown x → IsKnown (with_step x st)
  step-known x e st goes known = record {
    history = known.history ++ e ∷ [];
    is = run-more r known.history e x.world x.journal st known.is goes.is;
    few = λ on. change-few known.history x.world x.journal known.is e st goes.change goes.running (known.few goes.running) on;
  }

  start-known : IsKnown (start r)
  start-known = record {
    history = [];
    is = refl;
    few = λ running. record { turns = 0; each = omega arith; so_far = omega arith; few = omega arith };
  }

  pub few-issued : (history : List Event) (w : World C D) (journal : List Entry) → IsRun r history w journal → w.verdict ≡ None → w.issued ≤ 500000 * 1000000
  few-issued history w journal is running =
      let known = hold-along r IsKnown step-known history w journal start-known is in
      let few = known.few running in
      omega (arith, few.each, few.few)
