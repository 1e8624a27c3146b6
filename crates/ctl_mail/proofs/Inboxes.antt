-- The inbox that queues and stalled messages make: it ascends, and has what they have; and there is one such list alone.
use Rattle.std.proofs.Common.{◌≡◌, ◌≢◌, ◌⊎◌, ◌↔◌, ◌<◌, ◌++◌, ℕ, length, zero, suc, true, false, Option, None, Some, List, [], ◌∷◌, refl, sym, subst, ap, ◌∙◌, inl, inr, ⊎_elim, Contains, map, IsTrue, arith}
use Rattle.std.specs.List.{fold}
use Rattle.std.proofs.lemmas.Bool.Decides.{nat_tests}
use Rattle.std.proofs.lemmas.List.Elements.{All-contains, Contains-append_cases, Contains-append_left, Contains-append_right}
use Rattle.ruby_value.specs.declared.message.Message.{Message}
use Rattle.ruby_value.specs.declared.message.MsgNo.{MsgNo}
use Rattle.ruby_value.specs.Prelude.{number_before, same_number}
use Rattle.ruby_value.proofs.Contained.{Contains-cons_cases, Contains-cons_here, Contains-cons_there}
use Rattle.ruby_value.proofs.Ordered.{AllPairs-head, AllPairs-nil, AllPairs-tail}
use Rattle.stall_map.specs.declared.stalled.Stalled.{Stalled}
use Rattle.ctl_face.specs.Prelude.{InboxMessage, NumbersAscend, incoming_message}
use Rattle.ctl_face.specs.Inbox.{with_message}
use Rattle.ctl_face.proofs.Held.{from-map, nothing-there, to-map}
use Rattle.ctl_face.proofs.Inboxes.{Before, ascend-with}
use Rattle.ctl_face.proofs.OneKey.{with_message-contains}
use Rattle.ctl_mail.specs.Prelude.{Has, Holds, inbox_of, queued_messages, waiting_message, Queues, queue_of}

number-parts : (a b : MsgNo) → ((a.sender ≡ b.sender) × (a.count ≡ b.count)) ⊎ (same_number a b ≡ false)
number-parts a b = grind (arith, nat_tests)

same-refl : (a : MsgNo) → same_number a a ≡ true
same-refl a = grind (arith, nat_tests)

pub same-test : (a b : MsgNo) → a ≡ b → same_number a b ≡ true
same-test a b same = subst (λ (n : MsgNo). same_number a n ≡ true) same (same-refl a)

pub differ-by : (a b : MsgNo) → same_number a b ≡ false → a ≢ b
differ-by a b is = λ same. let so : same_number a b ≡ true = subst (λ (n : MsgNo). same_number a n ≡ true) same (same-refl a) in absurd (cc (is, so))

pub differ-test : (a b : MsgNo) → a ≢ b → same_number a b ≡ false
differ-test a b apart =
    ⊎_elim
    (λ same. absurd (apart (λ i. record { sender = same.0 i; count = same.1 i })))
    (λ is. is)
    (number-parts a b)

pub nat-or-not : (a b : ℕ) → (a ≡ b) ⊎ (a ≢ b)
nat-or-not a b = grind arith

-- two numbers are the same or differ
pub same-or-not : (a b : MsgNo) → (a ≡ b) ⊎ (a ≢ b)
same-or-not a b =
    ⊎_elim
    (λ same. inl (λ i. record { sender = same.0 i; count = same.1 i }))
    (λ is. inr (differ-by a b is))
    (number-parts a b)

not-both : (a b : MsgNo) → IsTrue (number_before a b) → IsTrue (number_before b a) → ⊥
not-both a b ab ba = grind (arith, nat_tests, ab, ba)

-- a list that ascends is what it contains
module _ where
  tail-in : (x y : InboxMessage) (xs ys : List InboxMessage) → NumbersAscend (x ∷ xs) → x ≡ y
      → ((o : InboxMessage) → Contains (x ∷ xs) o → Contains (y ∷ ys) o) → (o : InboxMessage) → Contains xs o → Contains ys o
  tail-in x y xs ys ascends same into o has =
      ⊎_elim
      (λ is.
      let before : IsTrue (number_before x.message.number o.message.number) = All-contains (Before x) xs o (AllPairs-head Before x xs ascends) has in
      let itself : IsTrue (number_before o.message.number o.message.number) = subst (λ (z : InboxMessage). IsTrue (number_before z.message.number o.message.number)) (same ∙ is) before in
      absurd (not-both o.message.number o.message.number itself itself))
      (λ there. there)
      (Contains-cons_cases y o ys (into o (Contains-cons_there x o xs has)))

  heads : (x y : InboxMessage) (xs ys : List InboxMessage) → NumbersAscend (x ∷ xs) → NumbersAscend (y ∷ ys)
      → Contains (y ∷ ys) x → Contains (x ∷ xs) y → x ≡ y
  heads x y xs ys first second x_in y_in =
      ⊎_elim sym
      (λ x_there.
      ⊎_elim (λ is. is)
      (λ y_there.
      absurd (not-both x.message.number y.message.number
      (All-contains (Before x) xs y (AllPairs-head Before x xs first) y_there)
      (All-contains (Before y) ys x (AllPairs-head Before y ys second) x_there)))
      (Contains-cons_cases x y xs y_in))
      (Contains-cons_cases y x ys x_in)

  pub same-lists : (xs ys : List InboxMessage) → NumbersAscend xs → NumbersAscend ys → ((o : InboxMessage) → Contains xs o → Contains ys o)
      → ((o : InboxMessage) → Contains ys o → Contains xs o) → xs ≡ ys
  same-lists [] [] first second into back = refl
  same-lists [] (y ∷ ys) first second into back = absurd (nothing-there y (back y (Contains-cons_here y ys)))
  same-lists (x ∷ xs) [] first second into back = absurd (nothing-there x (into x (Contains-cons_here x xs)))
  same-lists (x ∷ xs) (y ∷ ys) first second into back =
      let same : x ≡ y = heads x y xs ys first second (into x (Contains-cons_here x xs)) (back y (Contains-cons_here y ys)) in
      let rest : xs ≡ ys =
      same-lists xs ys (AllPairs-tail Before x xs first) (AllPairs-tail Before y ys second)
      (tail-in x y xs ys first same into) (tail-in y x ys xs second (sym same) back) in
      cc

-- what goes in one after another is there, if two of one number are the same
module _ where
  abbrev Either : List InboxMessage → List InboxMessage → InboxMessage → Type 0
  Either inbox more o = Contains inbox o ⊎ Contains more o

  abbrev OneOfANumber : (InboxMessage → Type 0) → Type 0
  OneOfANumber P = (a b : InboxMessage) → P a → P b → a.message.number ≡ b.message.number → a ≡ b

  step-back : (inbox rest : List InboxMessage) (x o : InboxMessage) → Either (with_message inbox x) rest o → Either inbox (x ∷ rest) o
  step-back inbox rest x o is =
      ⊎_elim
      (λ has. ⊎_elim (λ same. inr (subst (Contains (x ∷ rest)) same (Contains-cons_here x rest))) (λ so. inl so.0) ((with_message-contains inbox x o).0 has))
      (λ there. inr (Contains-cons_there x o rest there))
      is

  step-on : (inbox rest : List InboxMessage) (x o : InboxMessage) → OneOfANumber (Either inbox (x ∷ rest)) → Either inbox (x ∷ rest) o → Either (with_message inbox x) rest o
  step-on inbox rest x o one is =
      ⊎_elim
      (λ has.
      ⊎_elim
      (λ same. inl ((with_message-contains inbox x o).1 (inl (one x o (inr (Contains-cons_here x rest)) (inl has) (sym same)))))
      (λ apart. inl ((with_message-contains inbox x o).1 (inr (has, apart))))
      (same-or-not o.message.number x.message.number))
      (λ there.
      ⊎_elim
      (λ same. inl ((with_message-contains inbox x o).1 (inl same)))
      (λ behind. inr behind)
      (Contains-cons_cases x o rest there))
      is

  pub all-in : (more inbox : List InboxMessage) → OneOfANumber (Either inbox more) → (o : InboxMessage)
      → Contains (fold with_message inbox more) o ↔ Either inbox more o
  all-in [] inbox one o = (inl, λ is. ⊎_elim (λ has. has) (λ none. absurd (nothing-there o none)) is)
  all-in (x ∷ rest) inbox one o =
      let later = all-in rest (with_message inbox x)
      (λ a b has_a has_b. one a b (step-back inbox rest x a has_a) (step-back inbox rest x b has_b)) o in
      (λ has. step-back inbox rest x o (later.0 has), λ is. later.1 (step-on inbox rest x o one is))

  pub ascends-on : (more inbox : List InboxMessage) → NumbersAscend inbox → NumbersAscend (fold with_message inbox more)
  ascends-on [] inbox ascends = ascends
  ascends-on (x ∷ rest) inbox ascends = ascends-on rest (with_message inbox x) (ascend-with inbox x ascends)

-- the messages of all queues
module _ where
  pub queued-from : (queues : Queues) (o : InboxMessage) → Contains (queued_messages queues) o
      → (buffer : ℕ) × (Contains (queue_of queues buffer) o.message × (o ≡ incoming_message o.message))
  unfolding queue_of
  queued-from [] o has = absurd (nothing-there o has)
  queued-from (q ∷ qs) o has =
      ⊎_elim
      (λ here.
      let so = from-map incoming_message q.kept o here in
      (0, (subst (λ (z : InboxMessage). Contains q.kept z.message) so.2 so.1, subst (λ (z : InboxMessage). z ≡ incoming_message z.message) so.2 refl)))
      (λ there. let so = queued-from qs o there in (suc so.0, so.1))
      (Contains-append_cases (map incoming_message q.kept) (queued_messages qs) o has)

  pub queued-to : (queues : Queues) (buffer : ℕ) (m : Message) → Contains (queue_of queues buffer) m → Contains (queued_messages queues) (incoming_message m)
  unfolding queue_of
  queued-to [] buffer m has = absurd (nothing-there m has)
  queued-to (q ∷ qs) zero m has = Contains-append_left (map incoming_message q.kept) (queued_messages qs) (incoming_message m) (to-map incoming_message q.kept m has)
  queued-to (q ∷ qs) (suc buffer) m has = Contains-append_right (map incoming_message q.kept) (queued_messages qs) (incoming_message m) (queued-to qs buffer m has)

clash : (x : InboxMessage) (xs : List InboxMessage) (o : InboxMessage) → NumbersAscend (x ∷ xs) → Contains xs o → x.message.number ≡ o.message.number → ⊥
clash x xs o ascends there same =
    let before : IsTrue (number_before x.message.number o.message.number) = All-contains (Before x) xs o (AllPairs-head Before x xs ascends) there in
    let itself : IsTrue (number_before o.message.number o.message.number) = subst (λ (n : MsgNo). IsTrue (number_before n o.message.number)) same before in
    not-both o.message.number o.message.number itself itself

-- of an ascending list two members of one number are the same
pub one-of-ascending : (xs : List InboxMessage) → NumbersAscend xs → (a b : InboxMessage) → Contains xs a → Contains xs b → a.message.number ≡ b.message.number → a ≡ b
one-of-ascending [] ascends a b has_a has_b same = absurd (nothing-there a has_a)
one-of-ascending (x ∷ xs) ascends a b has_a has_b same =
    ⊎_elim
    (λ (a_here : x ≡ a).
    ⊎_elim
    (λ (b_here : x ≡ b). sym a_here ∙ b_here)
    (λ b_there. absurd (clash x xs b ascends b_there (ap (λ (o : InboxMessage). o.message.number) a_here ∙ same)))
    (Contains-cons_cases x b xs has_b))
    (λ a_there.
    ⊎_elim
    (λ (b_here : x ≡ b). absurd (clash x xs a ascends a_there (ap (λ (o : InboxMessage). o.message.number) b_here ∙ sym same)))
    (λ b_there. one-of-ascending xs (AllPairs-tail Before x xs ascends) a b a_there b_there same)
    (Contains-cons_cases x b xs has_b))
    (Contains-cons_cases x a xs has_a)

module _ (queues : Queues) (stalled : List Stalled) where
  abbrev all_messages : List InboxMessage
  all_messages = map waiting_message stalled ++ queued_messages queues

  all-to : ((buffer : ℕ) (m : Message) → Contains (queue_of queues buffer) m → m.buffer ≡ buffer) → (o : InboxMessage) → Contains all_messages o → Has queues stalled o
  all-to own o has =
      ⊎_elim
      (λ waiting. let so = from-map waiting_message stalled o waiting in subst (Has queues stalled) so.2 so.1)
      (λ queued.
      let so = queued-from queues o queued in
      subst (Has queues stalled) (sym so.1.1) (subst (λ (b : ℕ). Contains (queue_of queues b) o.message) (sym (own so.0 o.message so.1.0)) so.1.0))
      (Contains-append_cases (map waiting_message stalled) (queued_messages queues) o has)

  all-from : (m : Message) (waiting : Option ℕ) → Has queues stalled (record { message = m; waiting = waiting }) → Contains all_messages (record { message = m; waiting = waiting })
  all-from m None has = Contains-append_right (map waiting_message stalled) (queued_messages queues) (incoming_message m) (queued-to queues m.buffer m has)
  all-from m (Some line) has =
      let s : Stalled = record { line = line; message = m } in
      Contains-append_left (map waiting_message stalled) (queued_messages queues) (waiting_message s) (to-map waiting_message stalled s has)

  pub inbox-has : Holds queues stalled → (o : InboxMessage) → Contains (inbox_of queues stalled) o ↔ Has queues stalled o
  unfolding inbox_of
  inbox-has holds o =
      let only : (z : InboxMessage) → Either [] all_messages z → Has queues stalled z =
      λ z is. ⊎_elim (λ none. absurd (nothing-there z none)) (all-to holds.own_buffer z) is in
      let all = all-in all_messages [] (λ a b has_a has_b. holds.one a b (only a has_a) (only b has_b)) o in
      (λ has. only o (all.0 has), λ has. all.1 (inr (all-from o.message o.waiting has)))

  pub inbox-ascends : NumbersAscend (inbox_of queues stalled)
  unfolding inbox_of
  inbox-ascends = ascends-on all_messages [] (AllPairs-nil Before)

  -- queues and stalled messages have what an ascending list has: then that is their inbox
  pub becomes : (inbox : List InboxMessage) → NumbersAscend inbox → ((buffer : ℕ) (m : Message) → Contains (queue_of queues buffer) m → m.buffer ≡ buffer)
      → ((s : Stalled) → Contains stalled s → s.message.buffer < length queues)
      → ((o : InboxMessage) → Has queues stalled o ↔ Contains inbox o) → Holds queues stalled × (inbox_of queues stalled ≡ inbox)
  becomes inbox ascends own homes has =
      let holds : Holds queues stalled = record {
        own_buffer = own;
        one = λ a b has_a has_b same. one-of-ascending inbox ascends a b ((has a).0 has_a) ((has b).0 has_b) same;
        homes = homes;
      } in (
        holds,
        same-lists (inbox_of queues stalled) inbox inbox-ascends ascends
            (λ o in_old. (has o).0 ((inbox-has holds o).0 in_old)) (λ o in_new. (inbox-has holds o).1 ((has o).1 in_new)),
      )
