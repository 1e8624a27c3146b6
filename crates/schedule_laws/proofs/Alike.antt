-- The laws of schedules: that acts exchange, that two ended runs answer alike, and that each is in cycle order one of worker 0 alone.
use Rattle.std.proofs.Common.{◌≡◌, ℕ, None, List, [], length, sym, ◌∙◌, ap, subst, arith}
use Rattle.std.specs.List.{filter, flat_map}
use Rattle.std.specs.Prelude.{count_by}
use Rattle.run_journal.specs.declared.entry.Entry.{Entry}
use Rattle.run_journal.specs.declared.event.Event.{Event}
use Rattle.run_journal.specs.declared.summary.Account.{Account}
use Rattle.run_journal.specs.Prelude.{AreFinals, consumed_in, consumed_numbers, part_of, sent_in, sent_numbers}
use Rattle.run_journal.specs.declared.summary.Final.{Final}
use Rattle.ruby_value.specs.declared.message.MsgNo.{MsgNo}
use Rattle.cycle_order.specs.Prelude.{is_turned, ordered}
use Rattle.cycle_order.proofs.Ordered.{keeps-count, keeps-parts, keeps-turns, ordered-count}
use Rattle.protocol_runs.specs.Prelude.{CarriesMail, HasEnded, IsAlone, IsFramed, IsIdle, IsRun, IsSound, Rules, World, held_mail, is_queued, is_recycled, is_stalled}
use Rattle.protocol_runs.proofs.OneRun.{one-end, one-history}
use Rattle.schedule_laws.specs.Prelude.{ActsAreEvents, ActsExchange, AnswerAlike, ArrivalsSwap, IsOne}
use Rattle.schedule_laws.proofs.Acting.{Reached, act-run}
use Rattle.schedule_laws.proofs.Crossing.{diamond, then-at, then-entry, then-free}
use Rattle.schedule_laws.proofs.OneAnswers.{one-idle, one-of}

-- what follows where two journals are one in cycle order
module _ (journal told : List Entry) (order : ordered journal ≡ ordered told) where
  same-count : (g : Entry → List MsgNo) → length (flat_map g journal) ≡ length (flat_map g told)
  same-count g = omega (arith, ordered-count g [] journal, ordered-count g [] told, ap (λ (l : List Entry). length (flat_map g l)) order)

  same-part : (c : ℕ) → part_of c journal ≡ part_of c told
  same-part c = sym (keeps-parts c journal) ∙ ap (λ (l : List Entry). part_of c l) order ∙ keeps-parts c told

-- what a law of journals says
abbrev pub FinalsFollow : Type 0
FinalsFollow = (j k : List Entry) (all : List Final) → ((c : ℕ) → part_of c j ≡ part_of c k) → AreFinals j all → AreFinals k all

module _ {C M D : Type 0} (r : Rules C M D) where
  pub alike : FinalsFollow → (w v : World C D) (journal told : List Entry) → w ≡ v → ordered journal ≡ ordered told → AnswerAlike r w v journal told
  alike follow w v journal told world order =
      let sent : length (sent_numbers journal) ≡ length (sent_numbers told) = same-count journal told order sent_in in
      let consumed : length (consumed_numbers journal) ≡ length (consumed_numbers told) = same-count journal told order consumed_in in
      let count : ℕ → ℕ → World C D → Account = λ s k u. record {
        sent = s;
        consumed = k;
        queued = count_by is_queued (held_mail r u.places);
        stalled = count_by is_stalled (held_mail r u.places);
        recycled = count_by is_recycled (held_mail r u.places);
      } in
      record {
        world = world;
        part = same-part journal told order;
        turns = sym (keeps-turns journal) ∙ ap (λ (l : List Entry). filter is_turned l) order ∙ keeps-turns told;
        order = order;
        count = sym (keeps-count journal) ∙ ap (λ (l : List Entry). length l) order ∙ keeps-count told;
        finals = λ all are. follow journal told all (same-part journal told order) are;
        account = ap (λ (n : ℕ). count n (length (consumed_numbers journal)) w) sent
            ∙ ap (λ (n : ℕ). count (length (sent_numbers told)) n w) consumed
            ∙ ap (λ (u : World C D). count (length (sent_numbers told)) (length (consumed_numbers told)) u) world;
      }

  pub acts-are-events : ActsAreEvents r
  acts-are-events history w journal c p is running there free =
      act-run r w c p (record { history = history; journal = journal; is = is; running = running }) there free

module _ {C M D : Type 0} (r : Rules C M D) (Fits : ℕ → C → ℕ → Type 0) (Suits : ℕ → M → ℕ → Type 0) (Leads : D → ℕ → ℕ → Type 0)
    (sound : IsSound r Fits Suits Leads) (carries : CarriesMail r Fits Suits Leads) (framed : IsFramed r Fits Suits) (swap : ArrivalsSwap r) where
  pub acts-exchange : ActsExchange r
  acts-exchange history w journal c d p q is running apart at-c free-c at-d free-d =
      let reached : Reached r w = record { history = history; journal = journal; is = is; running = running } in
      record {
        place = then-at r Fits Suits Leads sound carries framed swap w c d p q reached apart at-c free-c at-d free-d;
        free = then-free r Fits Suits Leads sound carries framed swap w c d p q reached apart at-c free-c at-d free-d;
        entry = then-entry r Fits Suits Leads sound carries framed swap w c d p q reached apart at-c free-c at-d free-d;
        world = diamond r Fits Suits Leads sound carries framed swap w c d p q reached apart at-c free-c at-d free-d;
      }

  pub is-one : (history : List Event) (w : World C D) (journal : List Entry) → IsRun r history w journal → HasEnded w → IsOne r w journal
  is-one = one-of r Fits Suits Leads sound carries framed swap

  pub is-one-idle : (history : List Event) (w : World C D) (journal : List Entry) → IsRun r history w journal → w.verdict ≡ None → IsIdle r w → IsOne r w journal
  is-one-idle = one-idle r Fits Suits Leads sound carries framed swap

  pub answers-alike : FinalsFollow → (history other : List Event) (w v : World C D) (journal told : List Entry)
      → IsRun r history w journal → HasEnded w → IsRun r other v told → HasEnded v → AnswerAlike r w v journal told
  answers-alike follow history other w v journal told is ended also closed =
      let one = is-one history w journal is ended in
      let two = is-one other v told also closed in
      let same = one-history r Fits Suits Leads sound one.history two.history w v (ordered journal) (ordered told) one.run ended one.alone two.run closed two.alone in
      let ends = one-end r Fits Suits Leads sound two.history w v (ordered journal) (ordered told) (subst (λ (h : List Event). IsRun r h w (ordered journal)) same one.run) two.run in
      alike r follow w v journal told ends.0 ends.1

  -- one worker's own journal is in cycle order
  pub alone-ordered : (history : List Event) (w : World C D) (journal : List Entry) → IsRun r history w journal → HasEnded w → IsAlone r history → ordered journal ≡ journal
  alone-ordered history w journal is ended alone =
      let one = is-one history w journal is ended in
      let same = one-history r Fits Suits Leads sound one.history history w w (ordered journal) journal one.run ended one.alone is ended alone in
      let ends = one-end r Fits Suits Leads sound history w w (ordered journal) journal (subst (λ (h : List Event). IsRun r h w (ordered journal)) same one.run) is in
      ends.1
