-- How many messages of an inbox pass a test, after a message has gone out of it, or a controller's own copies have come in.
use Rattle.std.proofs.Common.{◌≡◌, ◌<◌, ◌+◌, ◌==◌, ◌&&◌, ◌⊎◌, ⊎_elim, ℕ, zero, suc, Bool, true, false, cond, not, List, [], ◌∷◌, map, filter, All, Contains, IsTrue, refl, sym, ap, subst, ◌∙◌, arith}
use Rattle.std.specs.Prelude.{count_by}
use Rattle.std.specs.List.{fold}
use Rattle.std.proofs.lemmas.Bool.{cases_eq}
use Rattle.std.proofs.lemmas.Bool.Decides.{nat_tests}
use Rattle.std.proofs.lemmas.List.Elements.{All-contains, All-weaker}
use Rattle.ruby_value.specs.declared.message.Delivery.{Delivery}
use Rattle.ruby_value.specs.declared.message.Message.{Message}
use Rattle.ruby_value.specs.declared.message.MsgNo.{MsgNo}
use Rattle.ruby_value.specs.Prelude.{number_before, numbers_from, same_number}
use Rattle.ruby_value.proofs.Contained.{Contains-cons_cases}
use Rattle.ruby_value.proofs.Ordered.{AllPairs-head, AllPairs-tail}
use Rattle.ctl_face.specs.Prelude.{InboxMessage, Mail, NumbersAscend, copies_to, incoming_message, mail_with_arrival, mail_with_own, without_message}
use Rattle.ctl_face.specs.Inbox.{with_message}
use Rattle.ctl_face.proofs.Held.{nothing-there}
use Rattle.ctl_face.proofs.Inboxes.{Before, all-with}
use Rattle.acts.proofs.Lists.{all_left}
use Rattle.slot_laws.proofs.Counts.{count-cons, count-put, one}

not_before_same : (a b : MsgNo) → number_before a b ≡ true → not (same_number b a) ≡ true
not_before_same a b before = grind (arith, nat_tests, before)

before_not_same : (a b : MsgNo) → number_before a b ≡ true → same_number a b ≡ false
before_not_same a b before = grind (arith, nat_tests, before)

same_itself : (a : MsgNo) → same_number a a ≡ true
same_itself a = grind (arith, nat_tests)

-- a number that isn't among its sender's later ones comes before or after each
apart_own : (a b : MsgNo) → a.sender ≡ b.sender → a.count < b.count → number_before b a ≡ not (number_before a b)
apart_own a b same below = grind (arith, nat_tests, same, below)

apart_other : (a b : MsgNo) → (a.sender ≡ b.sender → ⊥) → number_before b a ≡ not (number_before a b)
apart_other a b other = grind (arith, nat_tests, other)

apart : (a b : MsgNo) → (a.sender ≡ b.sender → a.count < b.count) → number_before b a ≡ not (number_before a b)
apart a b below = ⊎_elim (λ same. apart_own a b same (below same)) (λ other. apart_other a b other) (cases_eq a.sender b.sender)

-- the controller's own messages have numbers below this one
abbrev pub AreBelow : (me start : ℕ) → List InboxMessage → Type 0
AreBelow me start inbox = All (λ (o : InboxMessage). o.message.number.sender ≡ me → o.message.number.count < start) inbox

below_next : (me start : ℕ) (inbox : List InboxMessage) → AreBelow me start inbox → AreBelow me (start + 1) inbox
below_next me start inbox below =
    All-weaker (λ (o : InboxMessage). o.message.number.sender ≡ me → o.message.number.count < start) (λ (o : InboxMessage). o.message.number.sender ≡ me → o.message.number.count < start + 1)
    (λ o low own. let before = low own in omega arith) inbox below

below_with : (me start : ℕ) (inbox : List InboxMessage) (m : Message) → m.number ≡ record { sender = me; count = start } → AreBelow me start inbox → AreBelow me (start + 1) (with_message inbox (incoming_message m))
below_with me start inbox m is below =
    all-with (λ (o : InboxMessage). o.message.number.sender ≡ me → o.message.number.count < start + 1) inbox (incoming_message m) (below_next me start inbox below)
    (λ own. let count : m.number.count ≡ start = ap (λ (n : MsgNo). n.count) is in omega arith)

module _ (t : InboxMessage → Bool) where
  -- a message of the inbox goes out of it
  pub taken : (inbox : List InboxMessage) (m : InboxMessage) → NumbersAscend inbox → Contains inbox m → count_by t inbox ≡ one t m + count_by t (without_message inbox m.message.number)
  taken [] m ascends has = absurd (nothing-there m has)
  taken (o ∷ inbox) m ascends has = ⊎_elim here (there (taken inbox m (AllPairs-tail Before o inbox ascends))) (Contains-cons_cases o m inbox has)
    where
      here : o ≡ m → count_by t (o ∷ inbox) ≡ one t m + count_by t (without_message (o ∷ inbox) m.message.number)
      here same =
          let n = o.message.number in
          let kept : filter (λ (x : InboxMessage). not (same_number x.message.number n)) inbox ≡ inbox =
          all_left (λ (x : InboxMessage). not (same_number x.message.number n)) inbox
          (All-weaker (Before o) (λ (x : InboxMessage). not (same_number x.message.number n) ≡ true) (λ x before. not_before_same n x.message.number before) inbox (AllPairs-head Before o inbox ascends)) in
          subst (λ (x : InboxMessage). count_by t (o ∷ inbox) ≡ one t x + count_by t (without_message (o ∷ inbox) x.message.number)) same
          (rw (same_itself n, kept) (count-cons t o inbox))

      there : (Contains inbox m → count_by t inbox ≡ one t m + count_by t (without_message inbox m.message.number)) → Contains inbox m → count_by t (o ∷ inbox) ≡ one t m + count_by t (without_message (o ∷ inbox) m.message.number)
      there goes rest =
          let n = m.message.number in
          let before : Before o m = All-contains (Before o) inbox m (AllPairs-head Before o inbox ascends) rest in
          let inside = goes rest in
          let first = count-cons t o inbox in
          let kept = count-cons t o (without_message inbox n) in
          rw (before_not_same o.message.number n before) (omega arith)

  -- a message comes in with a number that its sender gives next
  put : (me start : ℕ) (inbox : List InboxMessage) (m : Message) → m.number ≡ record { sender = me; count = start } → AreBelow me start inbox
      → count_by t (with_message inbox (incoming_message m)) ≡ one t (incoming_message m) + count_by t inbox
  put me start inbox m is below =
      count-put t (λ (o : InboxMessage). number_before o.message.number m.number) (λ (o : InboxMessage). number_before m.number o.message.number) (incoming_message m) inbox
      (All-weaker (λ (o : InboxMessage). o.message.number.sender ≡ me → o.message.number.count < start) (λ (o : InboxMessage). number_before m.number o.message.number ≡ not (number_before o.message.number m.number))
      (λ o low. rw is (apart o.message.number (record { sender = me; count = start }) low)) inbox below)

  abbrev pub comes_in : ℕ → Delivery Message → Bool
  comes_in me c = c.receiver == me && t (incoming_message c.message)

  -- copies with the next numbers come in, of which those to the controller stay
  pub own_counted : (me start n : ℕ) (copies : List (Delivery Message)) (mail : Mail) → map (λ (c : Delivery Message). c.message.number) copies ≡ numbers_from me start n → AreBelow me start mail.inbox
      → count_by t (mail_with_own me mail copies).inbox ≡ count_by t mail.inbox + count_by (comes_in me) copies
  own_counted me start n [] mail is below = omega arith
  own_counted me start zero (c ∷ copies) mail is below = absurd (cc is)
  own_counted me start (suc n) (c ∷ copies) mail is below =
      let first : c.message.number ≡ record { sender = me; count = start } = cc in
      let rest : map (λ (x : Delivery Message). x.message.number) copies ≡ numbers_from me (start + 1) n = cc in
      let all = count-cons (comes_in me) c copies in
      let step = by first (own_counted me (start + 1) n copies (mail_with_arrival mail c.message) rest (below_with me start mail.inbox c.message first below)) (own_counted me (start + 1) n copies mail rest (below_next me start mail.inbox below)) (c.receiver == me) in
      omega arith
    where
      by : c.message.number ≡ record { sender = me; count = start }
          → count_by t (mail_with_own me (mail_with_arrival mail c.message) copies).inbox ≡ count_by t (with_message mail.inbox (incoming_message c.message)) + count_by (comes_in me) copies
          → count_by t (mail_with_own me mail copies).inbox ≡ count_by t mail.inbox + count_by (comes_in me) copies
          → (b : Bool) → count_by t (fold (λ (m : Mail) (x : Delivery Message). mail_with_arrival m x.message) mail (cond b (c ∷ copies_to me copies) (copies_to me copies))).inbox
          ≡ count_by t mail.inbox + (cond (b && t (incoming_message c.message)) 1 0 + count_by (comes_in me) copies)
      by first mine others true =
          let here = put me start mail.inbox c.message first below in
          omega arith
      by first mine others false = omega arith
