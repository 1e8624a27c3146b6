-- A message with a new number goes into its buffer's queue, and so into the inbox.
use Rattle.std.proofs.Common.{◌≡◌, ◌≢◌, ◌⊎◌, ◌<◌, ℕ, length, Bool, true, Option, None, Some, List, ◌∷◌, sym, subst, ap, ◌∙◌, inl, inr, ⊎_elim, Contains, filter, arith}
use Rattle.std.proofs.lemmas.Bool.Decides.{nat_tests}
use Rattle.std.proofs.lemmas.List.Elements.{Contains-append_cases, Contains-append_left, Contains-append_right}
use Rattle.ruby_value.specs.declared.message.Message.{Message}
use Rattle.ruby_value.proofs.Contained.{Contains-cons_cases, Contains-cons_here, Contains-cons_there}
use Rattle.stall_map.specs.declared.stalled.Stalled.{Stalled}
use Rattle.msg_buffer.specs.Queue as queue
use Rattle.ctl_face.specs.Prelude.{InboxMessage, incoming_message}
use Rattle.ctl_face.specs.Inbox.{with_message}
use Rattle.ctl_face.proofs.Held.{from-filter, in-filter}
use Rattle.ctl_face.proofs.Inboxes.{ascend-with}
use Rattle.ctl_face.proofs.OneKey.{with_message-contains}
use Rattle.ctl_mail.specs.Prelude.{Has, Holds, IsAt, inbox_of, Queues, Replaces, queue_of}
use Rattle.ctl_mail.proofs.Inboxes.{becomes, inbox-ascends, inbox-has, nat-or-not}

number-or-order : (a b : Message) → ((a.number.sender ≡ b.number.sender) × (a.number.count ≡ b.number.count)) ⊎ ((queue.comes_before a b ≡ true) ⊎ (queue.comes_before b a ≡ true))
number-or-order a b = grind (arith, nat_tests)

order-else : (a b : Message) → a.number ≢ b.number → (queue.comes_before a b ≡ true) ⊎ (queue.comes_before b a ≡ true)
order-else a b apart = ⊎_elim (λ same. absurd (apart (λ i. record { sender = same.0 i; count = same.1 i }))) (λ is. is) (number-or-order a b)

pub in-with-from : (xs : List Message) (m x : Message) → Contains (queue.with_message xs m) x → (m ≡ x) ⊎ Contains xs x
in-with-from xs m x has =
    let p : Message → Bool = λ o. queue.comes_before o m in
    let q : Message → Bool = λ o. queue.comes_before m o in
    ⊎_elim
    (λ low. inr (from-filter p xs x low).0)
    (λ there. ⊎_elim inl (λ high. inr (from-filter q xs x high).0) (Contains-cons_cases m x (filter q xs) there))
    (Contains-append_cases (filter p xs) (m ∷ filter q xs) x has)

pub in-with-new : (xs : List Message) (m : Message) → Contains (queue.with_message xs m) m
in-with-new xs m =
    let p : Message → Bool = λ o. queue.comes_before o m in
    let q : Message → Bool = λ o. queue.comes_before m o in
    Contains-append_right (filter p xs) (m ∷ filter q xs) m (Contains-cons_here m (filter q xs))

pub in-with-old : (xs : List Message) (m x : Message) → x.number ≢ m.number → Contains xs x → Contains (queue.with_message xs m) x
in-with-old xs m x apart has =
    let p : Message → Bool = λ o. queue.comes_before o m in
    let q : Message → Bool = λ o. queue.comes_before m o in
    ⊎_elim
    (λ low. Contains-append_left (filter p xs) (m ∷ filter q xs) x (in-filter p xs x low has))
    (λ high. Contains-append_right (filter p xs) (m ∷ filter q xs) x (Contains-cons_there m x (filter q xs) (in-filter q xs x high has)))
    (order-else x m apart)

module _ (old new : Queues) (stalled : List Stalled) (m : Message) (holds : Holds old stalled) (fresh : (o : InboxMessage) → Has old stalled o → o.message.number ≢ m.number) (put : Replaces old new m.buffer (queue.with_message (queue_of old m.buffer) m)) (count : length new ≡ length old) where
  here-from : (x : Message) (buffer : ℕ) → buffer ≡ m.buffer → Contains (queue_of new buffer) x → (m ≡ x) ⊎ Contains (queue_of old buffer) x
  here-from x buffer is has =
      subst (λ (b : ℕ). (m ≡ x) ⊎ Contains (queue_of old b) x) (sym is)
      (in-with-from (queue_of old m.buffer) m x (subst (λ xs. Contains xs x) put.here (subst (λ (b : ℕ). Contains (queue_of new b) x) is has)))

  anywhere-from : (x : Message) (buffer : ℕ) → Contains (queue_of new buffer) x → ((m ≡ x) × (buffer ≡ m.buffer)) ⊎ Contains (queue_of old buffer) x
  anywhere-from x buffer has =
      ⊎_elim
      (λ is. ⊎_elim (λ same. inl (same, is)) (λ there. inr there) (here-from x buffer is has))
      (λ apart. inr (subst (λ xs. Contains xs x) (put.others buffer apart) has))
      (nat-or-not buffer m.buffer)

  own : (buffer : ℕ) (x : Message) → Contains (queue_of new buffer) x → x.buffer ≡ buffer
  own buffer x has =
      ⊎_elim
      (λ so. ap (λ (z : Message). z.buffer) (sym so.0) ∙ sym so.1)
      (λ there. holds.own_buffer buffer x there)
      (anywhere-from x buffer has)

  from-new : (x : Message) (waiting : Option ℕ) → IsAt new stalled x waiting → (incoming_message m ≡ record { message = x; waiting = waiting }) ⊎ IsAt old stalled x waiting
  from-new x None has =
      ⊎_elim
      (λ so. inl (ap incoming_message so.0))
      (λ there. inr there)
      (anywhere-from x x.buffer has)
  from-new x (Some line) has = inr has

  to-new : (x : Message) (waiting : Option ℕ) → IsAt old stalled x waiting → IsAt new stalled x waiting
  to-new x None has =
      ⊎_elim
      (λ is.
      subst (λ (b : ℕ). Contains (queue_of new b) x) (sym is)
      (subst (λ xs. Contains xs x) (sym put.here)
      (in-with-old (queue_of old m.buffer) m x (fresh (incoming_message x) has) (subst (λ (b : ℕ). Contains (queue_of old b) x) is has))))
      (λ apart. subst (λ xs. Contains xs x) (sym (put.others x.buffer apart)) has)
      (nat-or-not x.buffer m.buffer)
  to-new x (Some line) has = has

  it-has : Has new stalled (incoming_message m)
  it-has = subst (λ xs. Contains xs m) (sym put.here) (in-with-new (queue_of old m.buffer) m)

  pub put-in : Holds new stalled × (inbox_of new stalled ≡ with_message (inbox_of old stalled) (incoming_message m))
  put-in =
      let inbox = inbox_of old stalled in
      becomes new stalled (with_message inbox (incoming_message m)) (ascend-with inbox (incoming_message m) (inbox-ascends old stalled)) own
      (λ s has. subst (λ n. s.message.buffer < n) (sym count) (holds.homes s has))
      (λ o. (
        λ has.
            (with_message-contains inbox (incoming_message m) o).1
            (⊎_elim
            (λ same. inl same)
            (λ there. inr ((inbox-has old stalled holds o).1 there, fresh o there))
            (from-new o.message o.waiting has)),
        λ is.
            ⊎_elim
            (λ same. subst (Has new stalled) same it-has)
            (λ so. to-new o.message o.waiting ((inbox-has old stalled holds o).0 so.0))
            ((with_message-contains inbox (incoming_message m) o).0 is),
      ))
