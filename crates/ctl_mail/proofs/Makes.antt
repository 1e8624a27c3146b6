-- What an act makes of the mail as it is kept is what it makes of the abstract mail.
use Rattle.std.proofs.Common.{◌≡◌, ◌≢◌, ℕ, Option, None, Some, List, [], refl, sym, subst, ap, ◌∙◌, Contains, IfSome, IfNone, All, true, get_or, length, replicate}
use Rattle.std.proofs.lemmas.List.Elements.{All-contains, Contains-get_or}
use Rattle.std.specs.List.Sorted.{IsStrictlyIncreasing}
use Rattle.std.specs.FinMap.{empty}
use Rattle.std.specs.declared.alloc.Global.{Global}
use Rattle.std.specs.declared.vec.Vec.{Vec}
use Rattle.ruby_value.specs.Prelude.{with_mark, Roomy}
use Rattle.ruby_value.specs.declared.message.Message.{Message}
use Rattle.ruby_value.specs.declared.message.MsgNo.{MsgNo}
use Rattle.ruby_value.proofs.Ordered.{AllPairs-nil}
use Rattle.msg_buffer.specs.Queue as queue
use Rattle.stall_map.specs.declared.stalled.Stalled.{Stalled}
use Rattle.ctl_face.specs.declared.parcel.Credit.{Credit}
use Rattle.ctl_face.specs.declared.parcel.Lent.{Lent}
use Rattle.ctl_face.specs.Prelude.{at_front, InboxMessage, Mail, without_message, incoming_message, mail_with_mark, mail_with_arrival, network_count, Lasts, no_mail, NumbersAscend, mail_without, mail_with_recycled, message_arriving_again}
use Rattle.ctl_face.specs.Front as face
use Rattle.ctl_face.proofs.Fronts.{front_first}
use Rattle.ctl_face.proofs.Held.{nothing-there}
use Rattle.ctl_face.proofs.Inboxes.{Before}
use Rattle.ctl_face.proofs.OneKey.{without_message-contains}
use Rattle.ctl_mail.specs.declared.act.MailAct.TheVariants.{Pop, Recycle}
use Rattle.ctl_mail.specs.declared.store.MailStore.{MailStore}
use Rattle.ctl_mail.specs.Prelude.{Has, Holds, IsAt, inbox_of, HasArrived, IsFree, IsLeast, IsMail, IsNewIn, mail_of, Queues, Replaces, queue_of, after_act, mail_at_front}
use Rattle.ctl_mail.proofs.Inboxes.{becomes, inbox-has}
use Rattle.ctl_mail.proofs.Leasts.{front-least, front-of-queue, queue-least}
use Rattle.ctl_mail.proofs.Pops.{popped, replaced-same, same-held}
use Rattle.ctl_mail.proofs.Changed.{readded}
use Rattle.ctl_mail.proofs.Puts.{put-in}

gone-out : (inbox : List InboxMessage) (number : MsgNo) → All (λ (o : InboxMessage). o.message.number ≢ number) (without_message inbox number)
gone-out inbox number k d within =
    ((without_message-contains inbox number (get_or (without_message inbox number) k d)).0 (Contains-get_or (without_message inbox number) k d within)).1

module _ (store : MailStore) (new : Vec (Roomy (List Message)) Global) (is_mail : IsMail store) (count : length new.items ≡ length store.buffers.items) where
  abbrev pub with_buffers : MailStore
  with_buffers = record store { buffers = new }

  kept : Holds new.items store.stalls.kept → IsMail with_buffers
  kept holds = record { holds = holds; marks_ascend = is_mail.marks_ascend; credits_ascend = is_mail.credits_ascend }

  pub same-queues : ((buffer : ℕ) → queue_of new.items buffer ≡ queue_of store.buffers.items buffer) → (mail_of with_buffers ≡ mail_of store) × IsMail with_buffers
  same-queues same =
      let so = same-held store.buffers.items new.items store.stalls.kept same count is_mail.holds in
      (ap (λ xs. record (mail_of store) { inbox = xs }) so.1, kept so.0)

  front-is : (buffer now : ℕ) → face.front (mail_of store) buffer now ≡ queue.front (queue_of store.buffers.items buffer) now
  front-is buffer now = front-of-queue store.buffers.items store.stalls.kept is_mail.holds (mail_of store) buffer now refl

  front-held : (buffer now : ℕ) (m : Message) → Some m ≡ queue.front (queue_of store.buffers.items buffer) now → Contains (queue_of store.buffers.items buffer) m
  front-held buffer now m is =
      (subst (IsLeast (HasArrived (queue_of store.buffers.items buffer) now)) (sym is) (queue-least (queue_of store.buffers.items buffer) now)).one.held

  -- the front goes out
  pub taken-value : (buffer now : ℕ) (o : Option Message) → o ≡ queue.front (queue_of store.buffers.items buffer) now → o ≡ face.front (mail_of store) buffer now
  taken-value buffer now o is = is ∙ sym (front-is buffer now)

  pub taken-out : (buffer now : ℕ) (o : Option Message) → o ≡ queue.front (queue_of store.buffers.items buffer) now
      → IfSome o (λ m. Replaces store.buffers.items new.items buffer (queue.without_message (queue_of store.buffers.items buffer) m.number))
      → IfSome o (λ m. (mail_of with_buffers ≡ mail_without (mail_of store) m) × IsMail with_buffers × IsNewIn (mail_of with_buffers) m.number × (m.buffer ≡ buffer))
  taken-out buffer now None is taken = tt
  taken-out buffer now (Some m) is taken =
      let held = front-held buffer now m is in
      let so = popped store.buffers.items new.items store.stalls.kept buffer m is_mail.holds held taken count in (
        ap (λ xs. record (mail_of store) { inbox = xs }) so.1,
        kept so.0,
        subst (All (λ (o : InboxMessage). o.message.number ≢ m.number)) (sym so.1) (gone-out (inbox_of store.buffers.items store.stalls.kept) m.number),
        is_mail.holds.own_buffer buffer m held,
      )

  pub taken-none : (buffer : ℕ) (o : Option Message) → IfNone o (Replaces store.buffers.items new.items buffer (queue_of store.buffers.items buffer))
      → IfNone o ((mail_of with_buffers ≡ mail_of store) × IsMail with_buffers)
  taken-none buffer None none = same-queues (replaced-same store.buffers.items new.items buffer none)
  taken-none buffer (Some m) none = tt

  -- a message comes in, with its mark
  pub fresh : (number : MsgNo) → IsNewIn (mail_of store) number → (o : InboxMessage) → Has store.buffers.items store.stalls.kept o → o.message.number ≢ number
  fresh number new_in o has =
      All-contains (λ (x : InboxMessage). x.message.number ≢ number) (inbox_of store.buffers.items store.stalls.kept) o new_in
      ((inbox-has store.buffers.items store.stalls.kept is_mail.holds o).1 has)

  pub new-in-queue : (m : Message) → IsNewIn (mail_of store) m.number → queue.IsNew (queue_of store.buffers.items m.buffer) m.number
  new-in-queue m new_in k d within = fresh m.number new_in (incoming_message (get_or (queue_of store.buffers.items m.buffer) k d)) (at-home (get_or (queue_of store.buffers.items m.buffer) k d) (Contains-get_or (queue_of store.buffers.items m.buffer) k d within))
    where
      at-home : (x : Message) → Contains (queue_of store.buffers.items m.buffer) x → Contains (queue_of store.buffers.items x.buffer) x
      at-home x has = subst (λ (b : ℕ). Contains (queue_of store.buffers.items b) x) (sym (is_mail.holds.own_buffer m.buffer x has)) has

  pub made-put : (m : Message) → IsNewIn (mail_of store) m.number
      → Replaces store.buffers.items new.items m.buffer (queue.with_message (queue_of store.buffers.items m.buffer) m)
      → (mail_with_mark (mail_of with_buffers) m.arrival ≡ mail_with_arrival (mail_of store) m) × IsMail with_buffers
  made-put m new_in put =
      let so = put-in store.buffers.items new.items store.stalls.kept m is_mail.holds (fresh m.number new_in) put count in
      (ap (λ xs. mail_with_mark (record (mail_of store) { inbox = xs }) m.arrival) so.1, kept so.0)

-- other marks
pub made-marks : (store : MailStore) (new : Vec ℕ Global) (copies : ℕ) → IsMail store → IsStrictlyIncreasing new.items → IsMail (record store { marks = new; copies = copies })
made-marks store new copies is rises = record { holds = is.holds; marks_ascend = rises; credits_ascend = is.credits_ascend }

-- no messages
pub no-messages : (queues : Queues) → ((buffer : ℕ) → queue_of queues buffer ≡ []) → Holds queues [] × (inbox_of queues [] ≡ [])
no-messages queues none =
    becomes queues [] [] (AllPairs-nil Before)
    (λ buffer m has. absurd (nothing-there m (subst (λ xs. Contains xs m) (none buffer) has)))
    (λ s has. absurd (nothing-there s has))
    (λ o. (λ has. nowhere o.message o.waiting has, λ is. absurd (nothing-there o is)))
  where
    nowhere : (m : Message) (waiting : Option ℕ) → IsAt queues [] m waiting → Contains {X = InboxMessage} [] (record { message = m; waiting = waiting })
    nowhere m None has = absurd (nothing-there m (subst (λ xs. Contains xs m) (none m.buffer) has))
    nowhere m (Some line) has = let s : Stalled = record { line = line; message = m } in absurd (nothing-there s has)

pub is-no-mail : (inbox : List InboxMessage) (marks : List ℕ) (networks : List Lasts) (own : Lasts) (lent : List Lent) (credits : List Credit)
    → inbox ≡ [] → marks ≡ [] → networks ≡ replicate network_count empty → own ≡ empty → lent ≡ [] → credits ≡ []
    → record { inbox = inbox; marks = marks; sent = 0; drawn = 0; copies = 0; network_last = networks; local_last = own; lent = lent; credits = credits } ≡ no_mail
is-no-mail inbox marks networks own lent credits a b c d e f = λ i. record {
  inbox = a i;
  marks = b i;
  sent = 0;
  drawn = 0;
  copies = 0;
  network_last = c i;
  local_last = d i;
  lent = e i;
  credits = f i;
}

-- what an act on the front makes of the mail, from what comes of the front
pub after-pop : (mail after : Mail) (buffer now : ℕ) (o : Option Message) → o ≡ face.front mail buffer now → IfSome o (λ m. after ≡ mail_without mail m) → IfNone o (after ≡ mail) → after ≡ after_act now mail (Pop buffer)
after-pop mail after buffer now None is taken none = none ∙ ap (λ (o : Option Message). mail_at_front mail (at_front (mail_without mail) o)) is
after-pop mail after buffer now (Some m) is taken none = taken ∙ ap (λ (o : Option Message). mail_at_front mail (at_front (mail_without mail) o)) is

pub after-recycle : (mail middle : Mail) (buffer now arrival : ℕ) (m : Message) → NumbersAscend mail.inbox → Some m ≡ face.front mail buffer now → middle ≡ mail_without mail m
    → mail_with_arrival middle (record m { arrival = arrival; recycled = true }) ≡ after_act now mail (Recycle buffer arrival)
after-recycle mail middle buffer now arrival m ascends is taken =
    let held : Contains mail.inbox (incoming_message m) =
    (subst (IsLeast (IsFree mail.inbox buffer now)) (sym is) (front-least mail.inbox buffer now (face.front mail buffer now) (front_first mail buffer now))).one.held in
    ap (λ (z : Mail). mail_with_arrival z (record m { arrival = arrival; recycled = true })) taken
    ∙ (ap (λ xs. record mail { inbox = xs; marks = with_mark mail.marks arrival }) (readded mail.inbox m (message_arriving_again arrival) ascends held (λ o. refl))
    ∙ ap (λ (o : Option Message). mail_at_front mail (at_front (mail_with_recycled mail arrival) o)) is)

pub no-recycle : (mail after : Mail) (buffer now arrival : ℕ) → None ≡ face.front mail buffer now → after ≡ mail → after ≡ after_act now mail (Recycle buffer arrival)
no-recycle mail after buffer now arrival is same = same ∙ ap (λ (o : Option Message). mail_at_front mail (at_front (mail_with_recycled mail arrival) o)) is

pub some-weaker : {X : Type 0} (P Q : X → Type 0) → ((x : X) → P x → Q x) → (o : Option X) → IfSome o P → IfSome o Q
some-weaker P Q weaker None is = tt
some-weaker P Q weaker (Some x) is = weaker x is

pub some-both : {X : Type 0} (P Q : X → Type 0) (o : Option X) → IfSome o P → IfSome o Q → IfSome o (λ x. P x × Q x)
some-both P Q None p q = tt
some-both P Q (Some x) p q = (p, q)

pub either-way : {X P : Type 0} (o : Option X) → IfSome o (λ _. P) → IfNone o P → P
either-way None some none = none
either-way (Some x) some none = some
