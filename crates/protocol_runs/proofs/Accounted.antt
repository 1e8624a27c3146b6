-- A turn sends the driver's numbers, and each comes into an inbox; and so a run accounts for each message.
use Rattle.std.proofs.Common.{◌≡◌, ◌≢◌, ◌≤◌, ◌⊎◌, inl, inr, ◌+◌, ◌&&◌, ℕ, zero, suc, Bool, true, false, not, Option, None, Some, List, [], ◌∷◌, ◌++◌, length, map, refl, sym, ◌∙◌, ap, subst, slice_get, eqb, ltb, add-zero, arith}
use Rattle.std.specs.Option.{option_to_list, option_map}
use Rattle.std.proofs.lemmas.Bool.{le-ltb}
use Rattle.std.proofs.lemmas.Bool.Decides.{eqb_tells}
use Rattle.std.proofs.lemmas.List.{append-nil}
use Rattle.std.proofs.lemmas.Option.{slice_get_within, slice_get-map}
use Rattle.ruby_value.specs.declared.fault.Finding.{Finding}
use Rattle.ruby_value.specs.declared.message.MsgNo.{MsgNo}
use Rattle.ruby_value.specs.Prelude.{same_number, numbers_from}
use Rattle.run_journal.specs.declared.entry.Entry.{Entry}
use Rattle.run_journal.specs.declared.entry.Entry.TheVariants as entry
use Rattle.run_journal.specs.declared.event.Event.{Event}
use Rattle.run_journal.specs.declared.verdict.Verdict.{Verdict}
use Rattle.protocol_runs.specs.Prelude.{Rules, DriverTurn, Mailed, Place, World, opening, opening_place, held_mail, Stepped, with_deliveries, changed_from, with_driver_turn, driver_turn_in, delivery_numbers, begun_place, stopped_by, Ran, IsRun, sent_numbers, consumed_numbers, sent_in, consumed_in, is_stalled, is_recycled, is_queued, times, account, IsAccounted, Change, Moves, Closes, Turns, driven_world, entry_of, IsOutcome, StopsAt, EndsWith, ContinuesAt, KeepsMail, IsSound, CarriesMail}
use Rattle.protocol_runs.proofs.Outcomes.{change-outcome}
use Rattle.protocol_runs.proofs.Runs.{hold-along}
use Rattle.protocol_runs.proofs.Places.{paired-map, changed, changed-length}
use Rattle.protocol_runs.proofs.Fitting.{WorldFits, opening-fits, change-fits, world-fits, asked-in, at-controller, controllers_in, served_places, served-grown}
use Rattle.protocol_runs.proofs.Tallies.{one, tally, counted, tally-map, tally-true, tally-more, flat_map-same}
use Rattle.protocol_runs.proofs.Accounting.{HasSentSame, from-own, from-other, held, stands, stands_by, stands-le, stands-same, SameSent, same-sent, IsKept, kept-le, IsSilent, silent-kept, have-arrived, move-kept}

module _ {C M D : Type 0} (r : Rules C M D) where
  -- controllers that keep their mail
  abbrev KeepsAt : (ℕ → C → C) → ℕ → List (Place C) → Type 0
  KeepsAt change k places = (c : ℕ) (p : Place C) → slice_get places c ≡ Some p → KeepsMail r p.controller (change (k + c) p.controller)

  changed-mail : (k : ℕ) (change : ℕ → C → C) (places : List (Place C)) → KeepsAt change k places → held_mail r (changed_from k change places) ≡ held_mail r places
  changed-mail k change [] keeps = refl
  changed-mail k change (p ∷ ps) keeps =
      let first = keeps 0 p refl in
      let same : r.mail (change k p.controller) ≡ r.mail p.controller = ap (λ (i : ℕ). r.mail (change i p.controller)) (sym (add-zero k)) ∙ first.mail in
      let rest = changed-mail (k + 1) change ps (λ c q there. subst (λ (i : ℕ). KeepsMail r q.controller (change i q.controller)) (omega arith) (keeps (suc c) q there)) in
      ap (λ (ms : List Mailed). ms ++ held_mail r (changed_from (k + 1) change ps)) same ∙ ap (λ (ms : List Mailed). r.mail p.controller ++ ms) rest

  -- as a cycle begins
  begun-sent : (next : ℕ) (o : Option (Place C)) → ((x : C) → r.sent (r.at_cycle x next) ≡ r.sent x) → SameSent r o (option_map (begun_place r next) o)
  begun-sent next None keeps = tt
  begun-sent next (Some p) keeps = keeps p.controller

  -- the numbers that a driver sends
  driver-sends : (n issued m : ℕ) (places : List (Place C)) (number : MsgNo) → length places ≡ n
      → tally (same_number number) (numbers_from n issued m) + stands r n issued places number ≡ stands r n (issued + m) places number
  driver-sends n issued m places number count = at (slice_get places number.sender) refl (eqb_tells number.sender n) where
    at : (o : Option (Place C)) → slice_get places number.sender ≡ o
        → ((eqb number.sender n ≡ true) × (number.sender ≡ n)) ⊎ ((eqb number.sender n ≡ false) × (number.sender ≢ n))
        → tally (same_number number) (numbers_from n issued m) + stands_by r n issued number o ≡ stands_by r n (issued + m) number o
    at None there (inl is) =
        let before : one (eqb number.sender n && ltb number.count issued) ≡ one (ltb number.count issued) = ap (λ (b : Bool). one (b && ltb number.count issued)) is.0 in
        let after : one (eqb number.sender n && ltb number.count (issued + m)) ≡ one (ltb number.count (issued + m)) = ap (λ (b : Bool). one (b && ltb number.count (issued + m))) is.0 in
        omega (arith, before, after, from-own n issued m number is.1)
    at None there (inr not) =
        let before : one (eqb number.sender n && ltb number.count issued) ≡ 0 = ap (λ (b : Bool). one (b && ltb number.count issued)) not.0 in
        let after : one (eqb number.sender n && ltb number.count (issued + m)) ≡ 0 = ap (λ (b : Bool). one (b && ltb number.count (issued + m))) not.0 in
        omega (arith, before, after, from-other n issued m number not.1)
    at (Some p) there told =
        let within = slice_get_within places number.sender p there in
        let apart : number.sender ≢ n = λ is. omega (arith, within, count, is) in
        omega (arith, from-other n issued m number apart)

module _ {C M D : Type 0} (r : Rules C M D) (Fits : ℕ → C → ℕ → Type 0) (Suits : ℕ → M → ℕ → Type 0) (Leads : D → ℕ → ℕ → Type 0)
    (sound : IsSound r Fits Suits Leads) (carries : CarriesMail r Fits Suits Leads) where
  -- a turn
  module _ (w : World C D) (running : w.verdict ≡ None) (journal : List Entry) (kept : IsKept r w journal) (fits : WorldFits r Fits Suits Leads sound w) where
    served-keeps : KeepsAt r (driver_turn_in r w).controller_after 0 w.places
    served-keeps c p there =
        subst (λ (i : ℕ). KeepsMail r p.controller ((driver_turn_in r w).controller_after i p.controller)) (omega arith)
        (carries.serves w.driver (controllers_in r Fits Suits Leads sound w) w.now w.issued (asked-in r Fits Suits Leads sound w running fits) c p.controller (at-controller r Fits Suits Leads sound w c p there))

    served-silent : IsSilent r w.places (served_places r Fits Suits Leads sound w running fits)
    served-silent =
        let change : ℕ → C → C = (driver_turn_in r w).controller_after in
        record {
          held = λ f. ap (λ (ms : List Mailed). tally (λ (m : Mailed). f m.number) ms) (changed-mail r 0 change w.places served-keeps);
          sent = λ c.
              paired-map _ (HasSentSame r) (slice_get w.places c) (slice_get (changed_from 0 change w.places) c)
              (λ p q there is.
              let keeps = carries.serves w.driver (controllers_in r Fits Suits Leads sound w) w.now w.issued (asked-in r Fits Suits Leads sound w running fits) c p.controller (at-controller r Fits Suits Leads sound w c p there) in
              ap (λ (s : Place C). r.sent s.controller) is ∙ keeps.sent)
              (changed change w.places c);
        }

    -- the driver's requests have come to their receivers, and its entry is written
    drive-kept : (now : ℕ) (finding : Option Finding) (verdict : Option Verdict)
        → IsKept r (with_driver_turn r w (driver_turn_in r w)) (journal ++ entry.Turned now (delivery_numbers r (driver_turn_in r w).requests) finding verdict ∷ [])
    drive-kept now finding verdict =
        let d : DriverTurn C M D = driver_turn_in r w in
        let n : ℕ = length r.controllers in
        let set : List (Place C) = served_places r Fits Suits Leads sound w running fits in
        let asked = asked-in r Fits Suits Leads sound w running fits in
        let xs : List C = controllers_in r Fits Suits Leads sound w in
        let grown = served-grown r Fits Suits Leads sound w running fits in
        let silent = served-silent in
        let told : Entry = entry.Turned now (delivery_numbers r d.requests) finding verdict in
        let count : length set ≡ n = changed-length 0 d.controller_after w.places ∙ fits.count in
        let numbers : (f : MsgNo → Bool) → tally f (delivery_numbers r d.requests) ≡ tally f (numbers_from n w.issued (length d.requests)) =
        λ f. ap (λ (ns : List MsgNo). tally f ns) (carries.asks w.driver xs w.now w.issued asked) in
        let before : (number : MsgNo) → stands r n w.issued set number ≡ stands r n w.issued w.places number =
        λ number. stands-same r n w.issued number (slice_get w.places number.sender) (slice_get set number.sender) (silent.sent number.sender) in
        let new : (number : MsgNo) → tally (same_number number) (delivery_numbers r d.requests) + held r (same_number number) set ≤ 1 =
        λ number.
        let few : stands r n (w.issued + length d.requests) set number ≤ 1 = stands-le r n (w.issued + length d.requests) number (slice_get set number.sender) in
        omega (arith, numbers (same_number number), driver-sends r n w.issued (length d.requests) set number count, before number, few, silent.held (same_number number), kept.moved (same_number number), kept.sent number) in
        let arrived =
        have-arrived r Fits Suits Leads sound carries w.now set d.requests (sound.asks w.driver xs w.now w.issued asked)
        (carries.receivers w.driver xs w.now w.issued asked) grown.fit count new in
        let last : List (Place C) = with_deliveries r set d.requests in
        let sends : (f : MsgNo → Bool) → tally f (sent_numbers (told ∷ [])) ≡ tally f (delivery_numbers r d.requests) =
        λ f. ap (λ (ns : List MsgNo). tally f ns) (append-nil (delivery_numbers r d.requests)) in
        record {
          sent = λ number.
              let more = tally-more (same_number number) sent_in journal (told ∷ []) in
              let same = stands-same r n (w.issued + length d.requests) number (slice_get set number.sender) (slice_get last number.sender) (arrived.sent number.sender) in
              omega (arith, more, sends (same_number number), numbers (same_number number), driver-sends r n w.issued (length d.requests) set number count, before number, same, kept.sent number);
          moved = λ f.
              let more = tally-more f sent_in journal (told ∷ []) in
              let less = tally-more f consumed_in journal (told ∷ []) in
              let nothing : tally f (consumed_numbers (told ∷ [])) ≡ 0 = refl in
              omega (arith, more, less, nothing, sends f, arrived.held f, silent.held f, kept.moved f);
        }

  -- the next cycle begins
  begun-silent : (next : ℕ) (places : List (Place C)) → IsSilent r places (map (begun_place r next) places)
  begun-silent next places =
      record {
        held = λ f.
            ap (λ (ms : List Mailed). tally (λ (m : Mailed). f m.number) ms)
            (flat_map-same (λ (p : Place C). r.mail p.controller) (begun_place r next) (λ p. let keeps = carries.begins p.controller next in keeps.mail) places);
        sent = λ c.
            subst (λ (o : Option (Place C)). SameSent r (slice_get places c) o) (sym (slice_get-map (begun_place r next) places c))
            (begun-sent r next (slice_get places c) (λ x. let keeps = carries.begins x next in keeps.sent));
      }

  outcome-kept : (n : ℕ) (w : World C D) (st : Stepped C D) (journal : List Entry) → IsOutcome r n w st → w.verdict ≡ None
      → WorldFits r Fits Suits Leads sound w → IsKept r w journal → IsKept r st.world (journal ++ option_to_list st.entry)
  outcome-kept n w st journal (StopsAt c least) running fits kept =
      let closed : Stepped C D = stopped_by r w c in
      silent-kept r w closed.world journal closed.entry kept
      (record { held = λ f. refl; sent = λ d. same-sent r (slice_get w.places d) }) refl refl refl
  outcome-kept n w st journal (EndsWith v nobody comes) running fits kept =
      let driven-kept = drive-kept w running journal kept fits w.now (driver_turn_in r w).finding (Some v) in
      record { sent = driven-kept.sent; moved = driven-kept.moved }
  outcome-kept n w st journal (ContinuesAt next nobody on) running fits kept =
      let told : List Entry = journal ++ entry_of r w None ∷ [] in
      let after : World C D = record (driven_world r w) { now = next; places = map (begun_place r next) (driven_world r w).places } in
      subst (λ (j : List Entry). IsKept r after j) (append-nil told)
      (silent-kept r (driven_world r w) after told None (drive-kept w running journal kept fits w.now (driver_turn_in r w).finding None)
      (begun-silent next (driven_world r w).places) refl refl refl)

  change-kept : (n : ℕ) (w : World C D) (e : Event) (st : Stepped C D) (journal : List Entry) → Change r n w e st → w.verdict ≡ None
      → WorldFits r Fits Suits Leads sound w → IsKept r w journal → IsKept r st.world (journal ++ option_to_list st.entry)
  change-kept n w e st journal (Moves c p f m there move) running fits kept = move-kept r Fits Suits Leads sound carries w journal kept fits c p there e m move
  change-kept n w e st journal (Closes worker c idle least) running fits kept =
      outcome-kept n w st journal (change-outcome r n w e st (Closes worker c idle least) refl) running fits kept
  change-kept n w e st journal (Turns worker idle least) running fits kept =
      outcome-kept n w st journal (change-outcome r n w e st (Turns worker idle least) refl) running fits kept

  opening-held : (xs : List C) → ((c : ℕ) (x : C) → slice_get xs c ≡ Some x → r.mail x ≡ []) → held_mail r (map opening_place xs) ≡ []
  opening-held [] empty = refl
  opening-held (x ∷ xs) empty =
      ap (λ (ms : List Mailed). ms ++ held_mail r (map opening_place xs)) (empty 0 x refl) ∙ opening-held xs (λ c y there. empty (suc c) y there)

  opening-stands : (number : MsgNo) (o : Option C) → slice_get r.controllers number.sender ≡ o
      → stands_by r (length r.controllers) 0 number (option_map opening_place o) ≡ 0
  opening-stands number None there = none-below (eqb number.sender (length r.controllers)) where
    none-below : (b : Bool) → one (b && ltb number.count 0) ≡ 0
    none-below true = ap one (le-ltb number.count 0 (omega arith))
    none-below false = refl
  opening-stands number (Some x) there =
      let empty = carries.opens number.sender x there in
      ap (λ (k : ℕ). one (ltb number.count k)) empty.1 ∙ ap one (le-ltb number.count 0 (omega arith))

  opening-kept : IsKept r (opening r) []
  opening-kept =
      record {
        sent = λ number.
            sym (ap (λ (o : Option (Place C)). stands_by r (length r.controllers) 0 number o) (slice_get-map opening_place r.controllers number.sender)
            ∙ opening-stands number (slice_get r.controllers number.sender) refl);
        moved = λ f.
            let none : held r f (map opening_place r.controllers) ≡ 0 =
            ap (λ (ms : List Mailed). tally (λ (m : Mailed). f m.number) ms) (opening-held r.controllers (λ c x there. let empty = carries.opens c x there in empty.0)) in
            omega (arith, none);
      }

  numbers-count : (c k n : ℕ) → length (numbers_from c k n) ≡ n
  numbers-count c k zero = refl
  numbers-count c k (suc n) = let rest = numbers-count c (k + 1) n in omega (arith, rest)

  -- each request that the driver issues in a world of a run has one number
  pub requests-count : (history : List Event) (w : World C D) (journal : List Entry) → IsRun r history w journal → w.verdict ≡ None
      → length (delivery_numbers r (driver_turn_in r w).requests) ≡ length (driver_turn_in r w).requests
  requests-count history w journal is running =
      let fits = world-fits r Fits Suits Leads sound history w journal is in
      let d : DriverTurn C M D = driver_turn_in r w in
      ap (λ (ns : List MsgNo). length ns) (carries.asks w.driver (controllers_in r Fits Suits Leads sound w) w.now w.issued (asked-in r Fits Suits Leads sound w running fits))
      ∙ numbers-count (length r.controllers) w.issued (length d.requests)

  record IsKnown (x : Ran C D) : Type 0 where
    fits : WorldFits r Fits Suits Leads sound x.world
    kept : IsKept r x.world x.journal

  pub kept-along : (history : List Event) (w : World C D) (journal : List Entry) → IsRun r history w journal → IsKept r w journal
  kept-along history w journal is =
      let known =
      hold-along r IsKnown
      (λ x e st goes known.
      record {
        fits = change-fits r Fits Suits Leads sound (length x.journal) x.world e st goes.change goes.running known.fits;
        kept = change-kept (length x.journal) x.world e st x.journal goes.change goes.running known.fits known.kept;
      })
      history w journal (record { fits = opening-fits r Fits Suits Leads sound; kept = opening-kept }) is in
      known.kept

  pub accounted : (history : List Event) (w : World C D) (journal : List Entry) → IsRun r history w journal → IsAccounted r journal w
  accounted history w journal is =
      let kept = kept-along history w journal is in
      record {
        sent_once = λ number. omega (arith, counted (same_number number) (sent_numbers journal), kept-le r w journal kept number);
        one_place = λ number.
            let f : MsgNo → Bool = same_number number in
            let in_places : times number (map (λ (m : Mailed). m.number) (held_mail r w.places)) ≡ held r f w.places =
            counted f (map (λ (m : Mailed). m.number) (held_mail r w.places)) ∙ tally-map f (λ (m : Mailed). m.number) (held_mail r w.places) in
            omega (arith, counted f (sent_numbers journal), counted f (consumed_numbers journal), in_places, kept.moved f);
      }

  -- each message is in one of the three places
  one-part : (stalled recycled : Bool) → one (not stalled && not recycled) + one stalled + one (not stalled && recycled) ≡ 1
  one-part true recycled = refl
  one-part false true = refl
  one-part false false = refl

  parts : (ms : List Mailed) → tally is_queued ms + tally is_stalled ms + tally is_recycled ms ≡ length ms
  parts [] = refl
  parts (m ∷ ms) =
      let first : one (is_queued m) + one (is_stalled m) + one (is_recycled m) ≡ 1 = one-part m.waits m.recycled in
      omega (arith, first, parts ms)

  pub adds-up : (history : List Event) (w : World C D) (journal : List Entry) → IsRun r history w journal
      → (account r journal w.places).sent
      ≡ (account r journal w.places).consumed + (account r journal w.places).queued + (account r journal w.places).stalled + (account r journal w.places).recycled
  adds-up history w journal is =
      let kept = kept-along history w journal is in
      let ms : List Mailed = held_mail r w.places in
      omega (arith, kept.moved (λ x. true), tally-true (sent_numbers journal), tally-true (consumed_numbers journal), tally-true ms, parts ms, counted is_queued ms, counted is_stalled ms, counted is_recycled ms)
