-- How many messages of an inbox pass a test is how many of its queues and of the stalled ones do, since no number is there twice.
use Rattle.std.proofs.Common.{◌≡◌, ◌≢◌, ◌⊎◌, ◌+◌, ◌++◌, ℕ, suc, Bool, true, false, not, cond, List, [], ◌∷◌, refl, sym, subst, ap, ◌∙◌, inl, inr, ⊎_elim, length, count_by, sum_by, All, Contains, filter, get_or, map, min, arith}
use Rattle.std.specs.List.{AllPairs, fold}
use Rattle.std.proofs.lemmas.List.Elements.{All-contains, All-head, All-tail, Contains-get_or}
use Rattle.std.proofs.lemmas.List.Sums.{length-filter, sum_by-cons}
use Rattle.ruby_value.specs.declared.message.Message.{Message}
use Rattle.ruby_value.specs.Prelude.{number_before, Roomy}
use Rattle.ruby_value.proofs.Contained.{Contains-cons_here, Contains-cons_there}
use Rattle.ruby_value.proofs.Ordered.{AllPairs-append, AllPairs-head, AllPairs-nil, AllPairs-tail}
use Rattle.stall_map.specs.declared.stalled.Stalled.{Stalled}
use Rattle.stall_map.specs.Prelude.{Ascends}
use Rattle.msg_buffer.specs.Prelude.{IsQueue}
use Rattle.ctl_face.specs.Prelude.{InboxMessage, incoming_message}
use Rattle.ctl_face.specs.Inbox.{with_message}
use Rattle.ctl_face.proofs.Held.{from-map, nothing-there}
use Rattle.ctl_face.proofs.OneKey.{with_message-contains}
use Rattle.ctl_mail.specs.Prelude.{is_queued, is_recycled, is_stalled, Has, Holds, inbox_of, queued_messages, waiting_message, Queues, queue_of}
use Rattle.ctl_mail.proofs.Inboxes.{queued-from}
use Rattle.ctl_mail.proofs.Inserts.{number-order}
use Rattle.ctl_mail.proofs.Rises.{not-after}
use Rattle.ctl_mail.proofs.WakeActs.{pairs-map}
use Rattle.ctl_mail.proofs.WakeMakes.{before-apart}

abbrev pub Other : InboxMessage → InboxMessage → Type 0
Other a b = a.message.number ≢ b.message.number

-- how many pass
module _ {X : Type 0} (t : X → Bool) where
  abbrev pub passing : List X → ℕ
  passing xs = length (filter t xs)

  pub passing-append : (xs ys : List X) → passing (xs ++ ys) ≡ passing xs + passing ys
  passing-append [] ys = omega arith
  passing-append (x ∷ xs) ys = by (t x) (passing-append xs ys)
    where
      by : (b : Bool) → passing (xs ++ ys) ≡ passing xs + passing ys → length (cond b (x ∷ filter t (xs ++ ys)) (filter t (xs ++ ys))) ≡ length (cond b (x ∷ filter t xs) (filter t xs)) + passing ys
      by true is = omega arith
      by false is = is

  pub passing-cons : (x : X) (xs : List X) → passing (x ∷ xs) ≡ passing (x ∷ []) + passing xs
  passing-cons x xs = passing-append (x ∷ []) xs

  -- in two parts
  passing-parts : (p q : X → Bool) (xs : List X) → ((x : X) → Contains xs x → ((p x ≡ true) × (q x ≡ false)) ⊎ ((p x ≡ false) × (q x ≡ true))) → passing (filter p xs) + passing (filter q xs) ≡ passing xs
  passing-parts p q [] each = omega arith
  passing-parts p q (x ∷ xs) each =
      let rest : passing (filter p xs) + passing (filter q xs) ≡ passing xs = passing-parts p q xs (λ y has. each y (Contains-cons_there x y xs has)) in
      ⊎_elim
      (λ so. rw (so.0, so.1) (first rest))
      (λ so. rw (so.0, so.1) (second rest))
      (each x (Contains-cons_here x xs))
    where
      first : passing (filter p xs) + passing (filter q xs) ≡ passing xs → passing (x ∷ filter p xs) + passing (filter q xs) ≡ passing (x ∷ xs)
      first rest = let a = passing-cons x (filter p xs) in let b = passing-cons x xs in omega (arith, a, b, rest)

      second : passing (filter p xs) + passing (filter q xs) ≡ passing xs → passing (filter p xs) + passing (x ∷ filter q xs) ≡ passing (x ∷ xs)
      second rest = let a = passing-cons x (filter q xs) in let b = passing-cons x xs in omega (arith, a, b, rest)

-- what passes and what doesn't is all
parted : {X : Type 0} (p : X → Bool) (xs : List X) → length (filter p xs) + length (filter (λ x. not (p x)) xs) ≡ length xs
parted p [] = omega arith
parted {X} p (x ∷ xs) = by (p x) (parted p xs)
  where
    by : (b : Bool) → length (filter p xs) + length (filter (λ z. not (p z)) xs) ≡ length xs
        → length (cond b (x ∷ filter p xs) (filter p xs)) + length (cond (not b) (x ∷ filter (λ z. not (p z)) xs) (filter (λ z. not (p z)) xs)) ≡ length (x ∷ xs)
    by true rest = omega arith
    by false rest = omega arith

pub count-both : {X : Type 0} (p : X → Bool) (xs : List X) → count_by p xs + count_by (λ x. not (p x)) xs ≡ length xs
count-both {X} p xs =
    let all = parted p xs in
    let yes = length-filter p xs in
    let no = length-filter (λ (x : X). not (p x)) xs in
    omega (arith, all, yes, no)

-- a sum that stops at a greatest number
stopped-sum : (most a b : ℕ) → min (min a most + b) most ≡ min (a + b) most
stopped-sum most a b = omega arith

pub stopped-more : (most so_far more before total after : ℕ) → before ≡ min so_far most → after ≡ min (before + more) most → total ≡ so_far + more → after ≡ min total most
stopped-more most so_far more before total after is sum all =
    sum ∙ (ap (λ n. min (n + more) most) is ∙ (stopped-sum most so_far more ∙ ap (λ n. min n most) (sym all)))

module _ (t : InboxMessage → Bool) where
  count-with : (inbox : List InboxMessage) (m : InboxMessage) → ((o : InboxMessage) → Contains inbox o → Other o m) → passing t (with_message inbox m) ≡ passing t inbox + passing t (m ∷ [])
  count-with inbox m fresh =
      let p : InboxMessage → Bool = λ o. number_before o.message.number m.message.number in
      let q : InboxMessage → Bool = λ o. number_before m.message.number o.message.number in
      let parts : passing t (filter p inbox) + passing t (filter q inbox) ≡ passing t inbox =
      passing-parts t p q inbox
      (λ o has.
      ⊎_elim
      (λ low. inl (low, not-after o.message.number m.message.number low))
      (λ high. inr (not-after m.message.number o.message.number high, high))
      (number-order o.message.number m.message.number (fresh o has))) in
      let all : passing t (filter p inbox ++ m ∷ filter q inbox) ≡ passing t (filter p inbox) + passing t (m ∷ filter q inbox) = passing-append t (filter p inbox) (m ∷ filter q inbox) in
      let one : passing t (m ∷ filter q inbox) ≡ passing t (m ∷ []) + passing t (filter q inbox) = passing-cons t m (filter q inbox) in
      omega (arith, parts, all, one)

  count-all : (more inbox : List InboxMessage) → AllPairs Other more → ((o x : InboxMessage) → Contains inbox o → Contains more x → Other o x)
      → passing t (fold with_message inbox more) ≡ passing t inbox + passing t more
  count-all [] inbox pairs apart = omega arith
  count-all (x ∷ rest) inbox pairs apart =
      let later = count-all rest (with_message inbox x) (AllPairs-tail Other x rest pairs)
      (λ o y has there.
      ⊎_elim
      (λ same. subst (λ (z : InboxMessage). Other z y) same (All-contains (Other x) rest y (AllPairs-head Other x rest pairs) there))
      (λ so. apart o y so.0 (Contains-cons_there x y rest there))
      ((with_message-contains inbox x o).0 has)) in
      let here = count-with inbox x (λ o has. apart o x has (Contains-cons_here x rest)) in
      let both = passing-cons t x rest in
      omega (arith, later, here, both)

-- no number is there twice
queued-apart : (qs : Queues) (base : ℕ) → ((i : ℕ) (m : Message) → Contains (queue_of qs i) m → m.buffer ≡ base + i)
    → ((i j : ℕ) (a b : Message) → Contains (queue_of qs i) a → Contains (queue_of qs j) b → a.number ≡ b.number → a ≡ b)
    → All (λ (q : Roomy (List Message)). IsQueue q.kept) qs → AllPairs Other (queued_messages qs)
unfolding queue_of
queued-apart [] base own one each = AllPairs-nil Other
queued-apart (q ∷ qs) base own one each =
    AllPairs-append Other (map incoming_message q.kept) (queued_messages qs)
    (pairs-map Other incoming_message q.kept (All-head (λ (r : Roomy (List Message)). IsQueue r.kept) q qs each).distinct)
    (queued-apart qs (base + 1) (λ i m has. let so : m.buffer ≡ base + suc i = own (suc i) m has in omega arith) (λ i j. one (suc i) (suc j)) (All-tail (λ (r : Roomy (List Message)). IsQueue r.kept) q qs each))
    (λ k d within j e inside same.
    let x = get_or (map incoming_message q.kept) k d in
    let y = get_or (queued_messages qs) j e in
    let from_x = from-map incoming_message q.kept x (Contains-get_or (map incoming_message q.kept) k d within) in
    let from_y = queued-from qs y (Contains-get_or (queued_messages qs) j e inside) in
    let same_x : from_x.0 ≡ x.message = ap (λ (z : InboxMessage). z.message) from_x.2 in
    let it : from_x.0 ≡ y.message = one 0 (suc from_y.0) from_x.0 y.message from_x.1 from_y.1.0 (ap (λ (z : Message). z.number) same_x ∙ same) in
    let buffer_x : from_x.0.buffer ≡ base + 0 = own 0 from_x.0 from_x.1 in
    let buffer_y : y.message.buffer ≡ base + suc from_y.0 = own (suc from_y.0) y.message from_y.1.0 in
    let equal : from_x.0.buffer ≡ y.message.buffer = ap (λ (z : Message). z.buffer) it in
    absurd (omega arith))

module _ (queues : Queues) (stalled : List Stalled) (holds : Holds queues stalled) (ascends : Ascends stalled) (each : All (λ (q : Roomy (List Message)). IsQueue q.kept) queues) where
  has-queued : (i : ℕ) (m : Message) → Contains (queue_of queues i) m → Has queues stalled (incoming_message m)
  has-queued i m has = subst (λ (b : ℕ). Contains (queue_of queues b) m) (sym (holds.own_buffer i m has)) has

  all-apart : AllPairs Other (map waiting_message stalled ++ queued_messages queues)
  all-apart =
      AllPairs-append Other (map waiting_message stalled) (queued_messages queues)
      (pairs-map Other waiting_message stalled (λ i j d lt within. before-apart (get_or stalled i d).message.number (get_or stalled j d).message.number (ascends i j d lt within)))
      (queued-apart queues 0 (λ i m has. let so : m.buffer ≡ i = holds.own_buffer i m has in omega arith)
      (λ i j a b has_a has_b same.
      ap (λ (o : InboxMessage). o.message) (holds.one (incoming_message a) (incoming_message b) (has-queued i a has_a) (has-queued j b has_b) same)) each)
      (λ k d within j e inside same.
      let x = get_or (map waiting_message stalled) k d in
      let y = get_or (queued_messages queues) j e in
      let from_x = from-map waiting_message stalled x (Contains-get_or (map waiting_message stalled) k d within) in
      let from_y = queued-from queues y (Contains-get_or (queued_messages queues) j e inside) in
      let same_x : from_x.0.message.number ≡ y.message.number = ap (λ (z : InboxMessage). z.message.number) from_x.2 ∙ same in
      let it : waiting_message from_x.0 ≡ incoming_message y.message =
      holds.one (waiting_message from_x.0) (incoming_message y.message) from_x.1 (has-queued from_y.0 y.message from_y.1.0) same_x in
      let waits = ap (λ (z : InboxMessage). z.waiting) it in
      absurd (cc waits))

  inbox-passing : (t : InboxMessage → Bool) → passing t (inbox_of queues stalled) ≡ passing t (map waiting_message stalled) + passing t (queued_messages queues)
  unfolding inbox_of
  inbox-passing t =
      let all = count-all t (map waiting_message stalled ++ queued_messages queues) [] all-apart (λ o x none _. absurd (nothing-there o none)) in
      let both = passing-append t (map waiting_message stalled) (queued_messages queues) in
      omega (arith, all, both)

  waiting-none : (t : InboxMessage → Bool) → ((s : Stalled) → t (waiting_message s) ≡ false) → (xs : List Stalled) → passing t (map waiting_message xs) ≡ 0
  waiting-none t never [] = refl
  waiting-none t never (x ∷ xs) = rw (never x) (waiting-none t never xs)

  waiting-all : (xs : List Stalled) → passing is_stalled (map waiting_message xs) ≡ length xs
  waiting-all [] = refl
  waiting-all (x ∷ xs) = let so = waiting-all xs in omega arith

  queue-passing : (t : InboxMessage → Bool) (p : Message → Bool) → ((m : Message) → t (incoming_message m) ≡ p m) → (xs : List Message) → passing t (map incoming_message xs) ≡ passing p xs
  queue-passing t p same [] = refl
  queue-passing t p same (x ∷ xs) =
      let a = passing-cons t (incoming_message x) (map incoming_message xs) in
      let b = passing-cons p x xs in
      let rest = queue-passing t p same xs in
      let one : passing t (incoming_message x ∷ []) ≡ passing p (x ∷ []) = by (t (incoming_message x)) (p x) (same x) in
      omega (arith, a, b, rest, one)
    where
      by : (c d : Bool) → c ≡ d → length (cond c (incoming_message x ∷ []) []) ≡ length (cond d (x ∷ []) [])
      by true true is = refl
      by false false is = refl
      by true false is = absurd (cc is)
      by false true is = absurd (cc is)

  queues-passing : (t : InboxMessage → Bool) (p : Message → Bool) → ((m : Message) → t (incoming_message m) ≡ p m) → (qs : Queues)
      → passing t (queued_messages qs) ≡ sum_by (λ (q : Roomy (List Message)). count_by p q.kept) qs
  queues-passing t p same [] = refl
  queues-passing t p same (q ∷ qs) =
      let a = passing-append t (map incoming_message q.kept) (queued_messages qs) in
      let b = queue-passing t p same q.kept in
      let c : passing p q.kept ≡ count_by p q.kept = length-filter p q.kept in
      let rest = queues-passing t p same qs in
      let sum = sum_by-cons (λ (r : Roomy (List Message)). count_by p r.kept) q qs in
      omega (arith, a, b, c, rest, sum)

  -- of those that don't wait
  counted : (t : InboxMessage → Bool) (p : Message → Bool) → ((s : Stalled) → t (waiting_message s) ≡ false) → ((m : Message) → t (incoming_message m) ≡ p m)
      → count_by t (inbox_of queues stalled) ≡ sum_by (λ (q : Roomy (List Message)). count_by p q.kept) queues
  counted t p never same =
      let all = inbox-passing t in
      let none = waiting-none t never stalled in
      let queued = queues-passing t p same queues in
      let is = length-filter t (inbox_of queues stalled) in
      omega (arith, all, none, queued, is)

  pub queued-count : count_by is_queued (inbox_of queues stalled) ≡ sum_by (λ (q : Roomy (List Message)). count_by (λ (m : Message). not m.recycled) q.kept) queues
  queued-count = counted is_queued (λ (m : Message). not m.recycled) (λ s. refl) (λ m. refl)

  pub recycled-count : count_by is_recycled (inbox_of queues stalled) ≡ sum_by (λ (q : Roomy (List Message)). count_by (λ (m : Message). m.recycled) q.kept) queues
  recycled-count = counted is_recycled (λ (m : Message). m.recycled) (λ s. refl) (λ m. refl)

  none-stalled : (qs : Queues) → passing is_stalled (queued_messages qs) ≡ 0
  none-stalled [] = refl
  none-stalled (q ∷ qs) =
      let a = passing-append is_stalled (map incoming_message q.kept) (queued_messages qs) in
      let b = queue-none q.kept in
      let rest = none-stalled qs in
      omega (arith, a, b, rest)
    where
      queue-none : (xs : List Message) → passing is_stalled (map incoming_message xs) ≡ 0
      queue-none [] = refl
      queue-none (x ∷ xs) = queue-none xs

  pub stalled-count : count_by is_stalled (inbox_of queues stalled) ≡ length stalled
  stalled-count =
      let all = inbox-passing is_stalled in
      let waiting = waiting-all stalled in
      let queued = none-stalled queues in
      let is = length-filter is_stalled (inbox_of queues stalled) in
      omega (arith, all, waiting, queued, is)
