-- What acts on mail do to marks, and that what arrives later is marked.
use Rattle.std.proofs.Common.{◌≡◌, ◌<◌, ◌≤◌, ◌+◌, ◌∙◌, ◌==◌, inl, inr, ⊎_elim, ℕ, ℤ, Bool, true, false, cond, not, List, [], ◌∷◌, map, Option, None, Some, Ok, Err, IsTrue, nat_abs, refl, sym, arith, is_some, length, slice_get, unwrap_or, nat_lt}
use Rattle.std.proofs.lemmas.Bool.{cond_both}
use Rattle.std.proofs.lemmas.List.Elements.{All-filter, All-map, All-weaker}
use Rattle.std.specs.List.{fold, list_all}
use Rattle.ruby_value.proofs.Ordered.{All-insert}
use Rattle.ruby_value.specs.declared.fault.Fault.TheVariants.{Copies, Latency, Route}
use Rattle.ruby_value.specs.declared.message.Message.{Message}
use Rattle.ruby_value.specs.declared.message.MsgNo.{MsgNo}
use Rattle.ruby_value.specs.declared.setup.BufferPlace.{BufferPlace}
use Rattle.ruby_value.specs.declared.setup.BufferPlace.TheVariants as place
use Rattle.ruby_value.specs.declared.setup.BufferSetup.{BufferSetup}
use Rattle.ruby_value.specs.declared.setup.MachineSetup.{MachineSetup}
use Rattle.ruby_value.specs.declared.value.Value.{Value}
use Rattle.ruby_value.specs.Prelude.{has_mark, with_mark, number_before, same_number}
use Rattle.ctl_face.specs.declared.parcel.Credit.{Credit}
use Rattle.ctl_face.specs.Prelude.{credit_before, with_credit, InboxMessage, Mail, without_message, last_at, is_latency, Actor, incoming_message, mail_with_delivery, receiving_buffer, Sending, copy_limit, local_arrival, local_copy, network_arrival, next_copy, no_copies, receivers_of, send, sending_from, sending_on, with_network_copy}
use Rattle.ctl_face.specs.Inbox.{with_message}
use Rattle.ctl_face.proofs.Arrivals.{copy_later, positive, raised}
use Rattle.ctl_face.proofs.Cases.{Good, good_ok, good_err, good_cond, good_unless}
use Rattle.ctl_face.proofs.OneKey.{with_mark-has}
use Rattle.acts.specs.Prelude.{AreCreditsMarked, AreMarked, KeepsMarks}

pub same_bool : (a b : Bool) → (a ≡ true → b ≡ true) → (b ≡ true → a ≡ true) → a ≡ b
same_bool true b to from = sym (to refl)
same_bool false true to from = cc (from refl)
same_bool false false to from = refl

pub marks_kept : (marks : List ℕ) (now : ℕ) → KeepsMarks marks now marks
marks_kept marks now = record { stay = λ cycle has. has; none_due = λ cycle is. refl }

pub has_more : (marks : List ℕ) (mark cycle : ℕ) → IsTrue (has_mark marks cycle) → IsTrue (has_mark (with_mark marks mark) cycle)
has_more marks mark cycle has = (with_mark-has marks mark cycle).1 (inr has)

pub has_itself : (marks : List ℕ) (mark : ℕ) → IsTrue (has_mark (with_mark marks mark) mark)
has_itself marks mark = (with_mark-has marks mark mark).1 (inl refl)

later_differs : (now mark cycle : ℕ) → now < mark → cycle ≤ now → mark ≡ cycle → ⊥
later_differs now mark cycle later early same = omega arith

-- with a later mark
pub marks_with : (before marks : List ℕ) (now mark : ℕ) → now < mark → KeepsMarks before now marks → KeepsMarks before now (with_mark marks mark)
marks_with before marks now mark later kept = record {
  stay = λ cycle has. has_more marks mark cycle (kept.stay cycle has);
  none_due = λ cycle early.
      same_bool (has_mark (with_mark marks mark) cycle) (has_mark before cycle)
      (λ has.
      ⊎_elim (λ same. absurd (later_differs now mark cycle later early same)) (λ old. sym (kept.none_due cycle early) ∙ old) ((with_mark-has marks mark cycle).0 has))
      (λ has. has_more marks mark cycle (kept.stay cycle has));
}

pub marked_with : (now mark : ℕ) (marks : List ℕ) (inbox : List InboxMessage) → AreMarked now marks inbox → AreMarked now (with_mark marks mark) inbox
marked_with now mark marks inbox all =
    All-weaker (λ (o : InboxMessage). now < o.message.arrival → IsTrue (has_mark marks o.message.arrival)) (λ (o : InboxMessage). now < o.message.arrival → IsTrue (has_mark (with_mark marks mark) o.message.arrival))
    (λ o has later. has_more marks mark o.message.arrival (has later)) inbox all

pub marked_without : (now : ℕ) (marks : List ℕ) (number : MsgNo) (inbox : List InboxMessage) → AreMarked now marks inbox → AreMarked now marks (without_message inbox number)
marked_without now marks number inbox all =
    All-filter (λ (o : InboxMessage). not (same_number o.message.number number)) (λ (o : InboxMessage). now < o.message.arrival → IsTrue (has_mark marks o.message.arrival)) inbox all

-- what changes some messages, where each that is changed is marked still
pub marked_map : (now : ℕ) (marks : List ℕ) (test : InboxMessage → Bool) (change : InboxMessage → InboxMessage)
    → ((o : InboxMessage) → (now < o.message.arrival → IsTrue (has_mark marks o.message.arrival)) → now < (change o).message.arrival → IsTrue (has_mark marks (change o).message.arrival))
    → (inbox : List InboxMessage) → AreMarked now marks inbox → AreMarked now marks (map (λ (o : InboxMessage). cond (test o) (change o) o) inbox)
marked_map now marks test change keeps inbox all =
    let P : InboxMessage → Type 0 = λ o. now < o.message.arrival → IsTrue (has_mark marks o.message.arrival) in
    let f : InboxMessage → InboxMessage = λ o. cond (test o) (change o) o in
    All-map P f inbox
    (All-weaker P (λ o. P (f o)) (λ o here. cond_both (test o) (change o) o P (λ _. keeps o here) (λ _. here)) inbox all)

pub marked_put : (now : ℕ) (marks : List ℕ) (inbox : List InboxMessage) (m : Message) → AreMarked now marks inbox → AreMarked now (with_mark marks m.arrival) (with_message inbox (incoming_message m))
marked_put now marks inbox m all =
    All-insert (λ (o : InboxMessage). now < o.message.arrival → IsTrue (has_mark (with_mark marks m.arrival) o.message.arrival)) (λ (o : InboxMessage). number_before o.message.number m.number) (λ (o : InboxMessage). number_before m.number o.message.number)
    (incoming_message m) inbox (marked_with now m.arrival marks inbox all) (λ later. has_itself marks m.arrival)

-- credits
pub credits_marked : (now mark : ℕ) (marks : List ℕ) (credits : List Credit) → AreCreditsMarked now marks credits → AreCreditsMarked now (with_mark marks mark) credits
credits_marked now mark marks credits all =
    All-weaker (λ (c : Credit). now < c.arrival → IsTrue (has_mark marks c.arrival)) (λ (c : Credit). now < c.arrival → IsTrue (has_mark (with_mark marks mark) c.arrival))
    (λ c has later. has_more marks mark c.arrival (has later)) credits all

pub credits_put : (now : ℕ) (marks : List ℕ) (credits : List Credit) (c : Credit) → AreCreditsMarked now marks credits → AreCreditsMarked now (with_mark marks c.arrival) (with_credit credits c)
credits_put now marks credits c all =
    All-insert (λ (o : Credit). now < o.arrival → IsTrue (has_mark (with_mark marks c.arrival) o.arrival)) (λ o. not (credit_before c o)) (λ o. credit_before c o)
    c credits (credits_marked now c.arrival marks credits all) (λ later. has_itself marks c.arrival)

-- what a send does to a sender's inbox, marks and credits: only what comes of a message that arrives later
module _ (now : ℕ) (P : List InboxMessage → List ℕ → List Credit → Type 0)
    (put : (inbox : List InboxMessage) (marks : List ℕ) (credits : List Credit) (m : Message) → now < m.arrival → P inbox marks credits → P (with_message inbox (incoming_message m)) (with_mark marks m.arrival) credits) where
  abbrev MailIs : Mail → Type 0
  MailIs mail = P mail.inbox mail.marks mail.credits

  abbrev SentIs : Sending → Type 0
  SentIs s = MailIs s.mail

  delivered : (b : Bool) (mail : Mail) (m : Message) → now < m.arrival → MailIs mail → MailIs (mail_with_delivery b mail m)
  delivered false mail m later is = is
  delivered true mail m later is = put mail.inbox mail.marks mail.credits m later is

  each_sent : (actor : Actor) (network latency : ℕ) (fields : List Value) → 0 < latency → (members : List ℕ) (s : Sending) → SentIs s → SentIs (fold (with_network_copy actor network latency fields now) s members)
  each_sent actor network latency fields some [] s is = is
  each_sent actor network latency fields some (receiver ∷ members) s is =
      let arrival = network_arrival actor s.mail network latency now receiver in
      let copy = next_copy actor s.mail receiver (unwrap_or (receiving_buffer actor.routes receiver network) 0) arrival fields in
      each_sent actor network latency fields some members (with_network_copy actor network latency fields now s receiver)
      (delivered (copy.receiver == actor.me) s.mail copy.message (copy_later actor s.mail network latency now receiver some) is)

  sent_on : (p : BufferPlace) (ordered : Bool) (actor : Actor) (mail : Mail) (buffer latency : ℕ) (fields : List Value) → 0 < latency → MailIs mail → Good SentIs (sending_on p ordered actor mail buffer latency fields now)
  sent_on place.Local ordered actor mail buffer latency fields some is =
      let sending = local_copy actor ordered mail buffer latency fields now in
      let copy = next_copy actor mail actor.me buffer (local_arrival ordered mail buffer latency now) fields in
      let in_time : now < now + latency = omega arith in
      good_unless SentIs (nat_lt copy_limit (mail.copies + 1)) Copies (Ok sending)
      (good_ok SentIs sending (delivered (copy.receiver == actor.me) mail copy.message (raised ordered (now + latency) (last_at mail.local_last buffer) now in_time) is))
  sent_on (place.To network destination) ordered actor mail buffer latency fields some is =
      let members = receivers_of destination fields in
      let sending = fold (with_network_copy actor network latency fields now) (no_copies mail) members in
      good_unless SentIs (not (list_all (λ receiver. is_some (receiving_buffer actor.routes receiver network)) members)) Route
      (cond (nat_lt copy_limit (mail.copies + length members)) (Err Copies) (Ok sending))
      (good_unless SentIs (nat_lt copy_limit (mail.copies + length members)) Copies (Ok sending)
      (good_ok SentIs sending (each_sent actor network latency fields some members (no_copies mail) is)))
  sent_on (place.From network) ordered actor mail buffer latency fields some is = good_ok SentIs (no_copies mail) is

  sent_from : (o : Option BufferSetup) (actor : Actor) (mail : Mail) (buffer latency : ℕ) (fields : List Value) → 0 < latency → MailIs mail → Good SentIs (sending_from o actor mail buffer latency fields now)
  sent_from None actor mail buffer latency fields some is = good_ok SentIs (no_copies mail) is
  sent_from (Some s) actor mail buffer latency fields some is = sent_on s.place s.ordered actor mail buffer latency fields some is

  pub sent_is : (machine : MachineSetup) (actor : Actor) (mail : Mail) (buffer : ℕ) (latency : ℤ) (fields : List Value) (s : Sending) → send machine actor mail buffer latency fields now ≡ Ok s → P mail.inbox mail.marks mail.credits → P s.mail.inbox s.mail.marks s.mail.credits
  sent_is machine actor mail buffer latency fields s sent is =
      let o = slice_get machine.buffers buffer in
      (good_cond SentIs (is_latency latency) (sending_from o actor mail buffer (nat_abs latency) fields now) (Err Latency)
      (λ latency_is. sent_from o actor mail buffer (nat_abs latency) fields (positive latency latency_is) is) (λ _. good_err SentIs Latency)).good s sent
