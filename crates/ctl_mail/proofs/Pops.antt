-- The front of a buffer goes out of its queue, and so out of the inbox.
use Rattle.std.proofs.Common.{◌≡◌, ◌≢◌, ◌<◌, ℕ, length, Bool, true, false, not, Option, None, Some, List, refl, sym, subst, ap, ◌∙◌, ⊎_elim, Contains}
use Rattle.ruby_value.specs.declared.message.Message.{Message}
use Rattle.ruby_value.specs.declared.message.MsgNo.{MsgNo}
use Rattle.ruby_value.specs.Prelude.{same_number}
use Rattle.stall_map.specs.declared.stalled.Stalled.{Stalled}
use Rattle.msg_buffer.specs.Queue as queue
use Rattle.ctl_face.specs.Prelude.{InboxMessage, without_message, incoming_message}
use Rattle.ctl_face.proofs.Held.{from-filter, in-filter}
use Rattle.ctl_face.proofs.Inboxes.{ascend-without}
use Rattle.ctl_face.proofs.OneKey.{without_message-contains}
use Rattle.ctl_mail.specs.Prelude.{Has, Holds, IsAt, inbox_of, Queues, Replaces, queue_of}
use Rattle.ctl_mail.proofs.Inboxes.{becomes, differ-by, differ-test, inbox-ascends, inbox-has, nat-or-not}

-- a message list without a number
pub without-from : (xs : List Message) (number : MsgNo) (m : Message) → Contains (queue.without_message xs number) m → Contains xs m × (m.number ≢ number)
without-from xs number m has =
    let so = from-filter (λ (o : Message). not (same_number o.number number)) xs m has in
    (so.0, differ-by m.number number (turned (same_number m.number number) so.1))
  where
    turned : (b : Bool) → not b ≡ true → b ≡ false
    turned true is = cc
    turned false is = refl

pub without-to : (xs : List Message) (number : MsgNo) (m : Message) → Contains xs m → m.number ≢ number → Contains (queue.without_message xs number) m
without-to xs number m has apart =
    in-filter (λ (o : Message). not (same_number o.number number)) xs m (ap not (differ-test m.number number apart)) has

module _ (old new : Queues) (stalled : List Stalled) (buffer : ℕ) (m : Message) (holds : Holds old stalled) (held : Contains (queue_of old buffer) m) (taken : Replaces old new buffer (queue.without_message (queue_of old buffer) m.number)) (count : length new ≡ length old) where
  its_buffer : m.buffer ≡ buffer
  its_buffer = holds.own_buffer buffer m held

  it-has : Has old stalled (incoming_message m)
  it-has = subst (λ (b : ℕ). Contains (queue_of old b) m) (sym its_buffer) held

  in-buffer-from : (x : Message) → x.buffer ≡ buffer → Contains (queue_of new x.buffer) x → Contains (queue_of old x.buffer) x × (x.number ≢ m.number)
  in-buffer-from x is has =
      let so = without-from (queue_of old buffer) m.number x (subst (λ xs. Contains xs x) taken.here (subst (λ (b : ℕ). Contains (queue_of new b) x) is has)) in
      (subst (λ (b : ℕ). Contains (queue_of old b) x) (sym is) so.0, so.1)

  in-buffer-to : (x : Message) → x.buffer ≡ buffer → Contains (queue_of old x.buffer) x → x.number ≢ m.number → Contains (queue_of new x.buffer) x
  in-buffer-to x is has apart =
      subst (λ (b : ℕ). Contains (queue_of new b) x) (sym is)
      (subst (λ xs. Contains xs x) (sym taken.here)
      (without-to (queue_of old buffer) m.number x (subst (λ (b : ℕ). Contains (queue_of old b) x) is has) apart))

  -- one elsewhere has another number
  elsewhere : (x : Message) → x.buffer ≢ buffer → Contains (queue_of old x.buffer) x → x.number ≢ m.number
  elsewhere x apart has same =
      apart (ap (λ (o : InboxMessage). o.message.buffer) (holds.one (incoming_message x) (incoming_message m) has it-has same) ∙ its_buffer)

  from-new : (x : Message) (waiting : Option ℕ) → IsAt new stalled x waiting → IsAt old stalled x waiting × (x.number ≢ m.number)
  from-new x None has =
      ⊎_elim
      (λ is. in-buffer-from x is has)
      (λ apart.
      let there : Contains (queue_of old x.buffer) x = subst (λ xs. Contains xs x) (taken.others x.buffer apart) has in
      (there, elsewhere x apart there))
      (nat-or-not x.buffer buffer)
  from-new x (Some line) has = (
    has,
    λ same.
        let so : record { message = x; waiting = Some line } ≡ incoming_message m = holds.one (record { message = x; waiting = Some line }) (incoming_message m) has it-has same in
        absurd (cc (ap (λ (o : InboxMessage). o.waiting) so)),
  )

  to-new : (x : Message) (waiting : Option ℕ) → IsAt old stalled x waiting → x.number ≢ m.number → IsAt new stalled x waiting
  to-new x None has apart =
      ⊎_elim
      (λ is. in-buffer-to x is has apart)
      (λ other. subst (λ xs. Contains xs x) (sym (taken.others x.buffer other)) has)
      (nat-or-not x.buffer buffer)
  to-new x (Some line) has apart = has

  own : (other : ℕ) (x : Message) → Contains (queue_of new other) x → x.buffer ≡ other
  own other x has =
      ⊎_elim
      (λ is. holds.own_buffer other x
      (subst (λ (b : ℕ). Contains (queue_of old b) x) (sym is)
      (without-from (queue_of old buffer) m.number x (subst (λ xs. Contains xs x) taken.here (subst (λ (b : ℕ). Contains (queue_of new b) x) is has))).0))
      (λ apart. holds.own_buffer other x (subst (λ xs. Contains xs x) (taken.others other apart) has))
      (nat-or-not other buffer)

  pub popped : Holds new stalled × (inbox_of new stalled ≡ without_message (inbox_of old stalled) m.number)
  popped =
      becomes new stalled (without_message (inbox_of old stalled) m.number) (ascend-without (inbox_of old stalled) m.number (inbox-ascends old stalled)) own
      (λ s has. subst (λ n. s.message.buffer < n) (sym count) (holds.homes s has))
      (λ o. (
        λ has. let so = from-new o.message o.waiting has in
            (without_message-contains (inbox_of old stalled) m.number o).1 ((inbox-has old stalled holds o).1 so.0, so.1),
        λ is. let so = (without_message-contains (inbox_of old stalled) m.number o).0 is in
            to-new o.message o.waiting ((inbox-has old stalled holds o).0 so.0) so.1,
      ))

-- nothing went out
pub same-held : (old new : Queues) (stalled : List Stalled) → ((buffer : ℕ) → queue_of new buffer ≡ queue_of old buffer) → length new ≡ length old → Holds old stalled → Holds new stalled × (inbox_of new stalled ≡ inbox_of old stalled)
same-held old new stalled same count holds =
    becomes new stalled (inbox_of old stalled) (inbox-ascends old stalled)
    (λ buffer m has. holds.own_buffer buffer m (subst (λ xs. Contains xs m) (same buffer) has))
    (λ s has. subst (λ n. s.message.buffer < n) (sym count) (holds.homes s has))
    (λ o. (λ has. (inbox-has old stalled holds o).1 (to-old o.message o.waiting has), λ is. from-old o.message o.waiting ((inbox-has old stalled holds o).0 is)))
  where
    to-old : (x : Message) (waiting : Option ℕ) → IsAt new stalled x waiting → IsAt old stalled x waiting
    to-old x None has = subst (λ xs. Contains xs x) (same x.buffer) has
    to-old x (Some line) has = has

    from-old : (x : Message) (waiting : Option ℕ) → IsAt old stalled x waiting → IsAt new stalled x waiting
    from-old x None has = subst (λ xs. Contains xs x) (sym (same x.buffer)) has
    from-old x (Some line) has = has

pub replaced-same : (old new : Queues) (buffer : ℕ) → Replaces old new buffer (queue_of old buffer) → (other : ℕ) → queue_of new other ≡ queue_of old other
replaced-same old new buffer is other =
    ⊎_elim
    (λ same. subst (λ (b : ℕ). queue_of new b ≡ queue_of old b) (sym same) is.here)
    (λ apart. is.others other apart)
    (nat-or-not other buffer)
