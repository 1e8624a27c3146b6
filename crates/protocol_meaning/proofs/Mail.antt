-- What a controller holds stays within an extent when its mail is changed, and what it sends is within it.
use Rattle.std.proofs.Common.{◌==◌, ◌&&◌, ℕ, ℤ, ◌+◌, Bool, true, false, cond, not, eqb, List, [], ◌∷◌, All, IfSome, refl, Option, None, Some, Result, Ok, Err, is_some, map, nat_abs, nat_lt, slice_get, unwrap_or, length}
use Rattle.std.proofs.lemmas.Bool.{cond_both}
use Rattle.std.proofs.lemmas.List.Elements.{All-nil, All-cons, All-contains, All-filter, All-map, All-push, All-append}
use Rattle.std.specs.List.{fold, list_all}
use Rattle.std.specs.Option.{ok_or}
use Rattle.ruby_value.specs.declared.fault.Fault.{Fault}
use Rattle.ruby_value.specs.declared.fault.Fault.TheVariants.{Copies, Front, Latency, Route}
use Rattle.ruby_value.specs.declared.message.Delivery.{Delivery}
use Rattle.ruby_value.specs.declared.message.Message.{Message}
use Rattle.ruby_value.specs.declared.message.MsgNo.{MsgNo}
use Rattle.ruby_value.specs.declared.setup.BufferPlace.{BufferPlace}
use Rattle.ruby_value.specs.declared.setup.BufferPlace.TheVariants as place
use Rattle.ruby_value.specs.declared.setup.BufferSetup.{BufferSetup}
use Rattle.ruby_value.specs.declared.value.Value.{Value}
use Rattle.ruby_value.specs.Prelude.{same_number}
use Rattle.ctl_face.specs.declared.parcel.Credit.{Credit}
use Rattle.ctl_face.specs.Prelude.{Acts, acts_after_dequeue, credit_for, had_slot, mail_after_dequeue, mail_if_credited, parcels_for_others, posted_credits, with_credit_parcel, with_message_parcel, again, after_front, at_front, InboxMessage, Mail, after_sending, enqueue, for_others, IsFront, front, is_latency, Actor, LocalView, incoming_message, mail_with_delivery, mail_without, pop, front_now, required_front, mail_with_recycled, message_arriving_again, recycle, receiving_buffer, Sending, copy_limit, local_arrival, local_copy, network_arrival, next_copy, no_copies, receivers_of, send, sending_from, sending_on, with_network_copy, mail_with_waiting, message_waiting_under, stall, is_under, message_waiting_no_longer, wake, wake_all, with_woken, woken_mail}
use Rattle.ctl_face.proofs.Cases.{Good, good_ok, good_err, good_cond}
use Rattle.ctl_face.proofs.Fronts.{front_first}
use Rattle.ctl_face.proofs.Inboxes.{all-map, all-with, all-without}
use Rattle.protocol_meaning.specs.Prelude.{Extent, AreWithin, MessageWithin}
use Rattle.protocol_meaning.proofs.Bounds.{Bounds, CopyWithin, ViewWithin}

module _ (e : Extent) where
  abbrev Inbox : List InboxMessage → Type 0
  Inbox inbox = All (MessageWithin e) inbox

  -- a change, where a test holds, that leaves the fields
  tested : (test : InboxMessage → Bool) (change : InboxMessage → InboxMessage) → ((o : InboxMessage) → MessageWithin e o → MessageWithin e (change o))
      → (inbox : List InboxMessage) → Inbox inbox → Inbox (map (λ (o : InboxMessage). cond (test o) (change o) o) inbox)
  tested test change keeps inbox within =
      let either : InboxMessage → InboxMessage = λ o. cond (test o) (change o) o in
      all-map (MessageWithin e) either (λ o here. cond_both (test o) (change o) o (MessageWithin e) (λ _. keeps o here) (λ _. here)) inbox within

  pub delivered : (mine : Bool) (mail : Mail) (m : Message) → AreWithin e m.fields → Inbox mail.inbox → Inbox (mail_with_delivery mine mail m).inbox
  delivered true mail m here within = all-with (MessageWithin e) mail.inbox (incoming_message m) within here
  delivered false mail m here within = within

  -- a credit for itself leaves the messages
  pub credited : (own : Bool) (mail : Mail) (c : Credit) → Inbox mail.inbox → Inbox (mail_if_credited own mail c).inbox
  credited true mail c within = within
  credited false mail c within = within

  -- what was sent
  abbrev Copies-within : List (Delivery Message) → Type 0
  Copies-within copies = All (λ (c : Delivery Message). AreWithin e c.message.fields) copies

  record SendingWithin (s : Sending) : Type 0 where
    inbox : Inbox s.mail.inbox
    copies : Copies-within s.copies

  none_within : (mail : Mail) → Inbox mail.inbox → SendingWithin (no_copies mail)
  none_within mail within = record { inbox = within; copies = All-nil (λ (c : Delivery Message). AreWithin e c.message.fields) }

  module _ (actor : Actor) (fields : List Value) (here : AreWithin e fields) (now : ℕ) where
    one_within : (network latency : ℕ) (s : Sending) (receiver : ℕ) → SendingWithin s → SendingWithin (with_network_copy actor network latency fields now s receiver)
    one_within network latency s receiver within =
        let arrival = network_arrival actor s.mail network latency now receiver in
        let buffer = unwrap_or (receiving_buffer actor.routes receiver network) 0 in
        let copy = next_copy actor s.mail receiver buffer arrival fields in
        record {
          inbox = delivered (eqb receiver actor.me) s.mail copy.message here within.inbox;
          copies = All-push (λ (c : Delivery Message). AreWithin e c.message.fields) s.copies copy within.copies here;
        }

    all_within : (network latency : ℕ) (members : List ℕ) (s : Sending) → SendingWithin s → SendingWithin (fold (with_network_copy actor network latency fields now) s members)
    all_within network latency [] s within = within
    all_within network latency (receiver ∷ members) s within =
        all_within network latency members (with_network_copy actor network latency fields now s receiver) (one_within network latency s receiver within)

    local_within : (ordered : Bool) (mail : Mail) (buffer latency : ℕ) → Inbox mail.inbox → SendingWithin (local_copy actor ordered mail buffer latency fields now)
    local_within ordered mail buffer latency within =
        let copy = next_copy actor mail actor.me buffer (local_arrival ordered mail buffer latency now) fields in
        record {
          inbox = delivered (eqb actor.me actor.me) mail copy.message here within;
          copies = All-cons (λ (c : Delivery Message). AreWithin e c.message.fields) copy [] here (All-nil (λ (c : Delivery Message). AreWithin e c.message.fields));
        }

    on_within : (p : BufferPlace) (ordered : Bool) (mail : Mail) (buffer latency : ℕ) → Inbox mail.inbox → Good SendingWithin (sending_on p ordered actor mail buffer latency fields now)
    on_within place.Local ordered mail buffer latency within =
        good_cond SendingWithin (nat_lt copy_limit (mail.copies + 1)) (Err Copies) (Ok (local_copy actor ordered mail buffer latency fields now)) (λ _. good_err SendingWithin Copies)
        (λ _. good_ok SendingWithin (local_copy actor ordered mail buffer latency fields now) (local_within ordered mail buffer latency within))
    on_within (place.To network destination) ordered mail buffer latency within =
        let members = receivers_of destination fields in
        let sending = fold (with_network_copy actor network latency fields now) (no_copies mail) members in
        let routed = list_all (λ receiver. is_some (receiving_buffer actor.routes receiver network)) members in
        let many = nat_lt copy_limit (mail.copies + length members) in
        good_cond SendingWithin (not routed) (Err Route) (cond many (Err Copies) (Ok sending)) (λ _. good_err SendingWithin Route)
        (λ _. good_cond SendingWithin many (Err Copies) (Ok sending) (λ _. good_err SendingWithin Copies)
        (λ _. good_ok SendingWithin sending (all_within network latency members (no_copies mail) (none_within mail within))))
    on_within (place.From network) ordered mail buffer latency within = good_ok SendingWithin (no_copies mail) (none_within mail within)

    from_within : (o : Option BufferSetup) (mail : Mail) (buffer latency : ℕ) → Inbox mail.inbox → Good SendingWithin (sending_from o actor mail buffer latency fields now)
    from_within None mail buffer latency within = good_ok SendingWithin (no_copies mail) (none_within mail within)
    from_within (Some s) mail buffer latency within = on_within s.place s.ordered mail buffer latency within

  -- the front of a buffer is a message of the inbox
  front_in : (mail : Mail) (buffer now : ℕ) (o : Option Message) → IsFront mail.inbox buffer now o → Inbox mail.inbox → IfSome o (λ (m : Message). AreWithin e m.fields)
  front_in mail buffer now None first within = tt
  front_in mail buffer now (Some m) first within = All-contains (MessageWithin e) mail.inbox (incoming_message m) within first.held

module _ (b : Bounds) (v : LocalView) (is : ViewWithin b v) where
  -- other mail of the same controller, and other acts with it
  mail_within : (mail : Mail) (acts : Acts) → All (MessageWithin b.extent) mail.inbox → All (CopyWithin b) acts.posted → ViewWithin b (record v { ctl = record v.ctl { mail = mail }; acts = acts })
  mail_within mail acts inbox posted = record {
    holds = record { tables = is.holds.tables; states_set = is.holds.states_set; inbox = inbox };
    kept = is.kept;
    posted = posted;
    me = is.me;
    initial = is.initial;
    default_state = is.default_state;
  }

  front_within : (told : MsgNo → Acts) (change : Message → Mail) (o : Option Message) → ((n : MsgNo) → All (CopyWithin b) (told n).posted)
      → ((m : Message) → All (MessageWithin b.extent) (change m).inbox) → Good (ViewWithin b) (after_front v told (at_front change o))
  front_within told change None posted keeps = good_err (ViewWithin b) Front
  front_within told change (Some m) posted keeps = good_ok (ViewWithin b) _ (mail_within (change m) (told m.number) (keeps m) (posted m.number))

  pub pop_keeps : (buffer : ℕ) → Good (ViewWithin b) (pop v buffer)
  pop_keeps buffer =
      front_within (acts_after_dequeue v.actor buffer v.now v.acts) (λ m. mail_after_dequeue v.actor buffer v.now m.number (mail_without v.ctl.mail m)) (front_now v buffer)
      (λ n. All-append (CopyWithin b) v.acts.posted (posted_credits v.actor buffer v.now n) is.posted (no_values n))
      (λ m. credited b.extent (had_slot v.actor buffer m.number && (m.number.sender == v.actor.me)) (mail_without v.ctl.mail m) (credit_for v.actor buffer v.now m.number).message
      (all-without (MessageWithin b.extent) v.ctl.mail.inbox m.number is.holds.inbox))
    where
      no_values : (n : MsgNo) → All (CopyWithin b) (posted_credits v.actor buffer v.now n)
      no_values n =
          cond_both (had_slot v.actor buffer n && not (n.sender == v.actor.me)) (with_credit_parcel (credit_for v.actor buffer v.now n) ∷ []) [] (All (CopyWithin b))
          (λ _. All-cons (CopyWithin b) (with_credit_parcel (credit_for v.actor buffer v.now n)) [] tt (All-nil (CopyWithin b))) (λ _. All-nil (CopyWithin b))

  pub stall_keeps : (buffer line : ℕ) → Good (ViewWithin b) (stall v buffer line)
  stall_keeps buffer line =
      front_within _ (mail_with_waiting v.ctl.mail line) (front_now v buffer) (λ n. is.posted)
      (λ m. tested b.extent (λ (o : InboxMessage). same_number o.message.number m.number) (message_waiting_under line) (λ o here. here) v.ctl.mail.inbox is.holds.inbox)

  woken_keeps : (test : InboxMessage → Bool) → ViewWithin b (with_woken v test)
  woken_keeps test = mail_within (woken_mail v.ctl.mail test) _ (tested b.extent test message_waiting_no_longer (λ o here. here) v.ctl.mail.inbox is.holds.inbox) is.posted

  pub wake_keeps : (line : ℕ) → ViewWithin b (wake v line)
  wake_keeps line = woken_keeps (λ (o : InboxMessage). is_under line o.waiting)

  pub wake_all_keeps : ViewWithin b (wake_all v)
  wake_all_keeps = woken_keeps (λ (o : InboxMessage). is_some o.waiting)

  recycled_keeps : (told : MsgNo → Acts) (good : Bool) (buffer arrival : ℕ) → ((n : MsgNo) → All (CopyWithin b) (told n).posted)
      → Good (ViewWithin b) (after_front v told (cond good (at_front (mail_with_recycled v.ctl.mail arrival) (front_now v buffer)) (Err Latency)))
  recycled_keeps told true buffer arrival posted =
      front_within told (mail_with_recycled v.ctl.mail arrival) (front_now v buffer) posted
      (λ m. tested b.extent (λ (o : InboxMessage). same_number o.message.number m.number) (message_arriving_again arrival) (λ o here. here) v.ctl.mail.inbox is.holds.inbox)
  recycled_keeps told false buffer arrival posted = good_err (ViewWithin b) Latency

  pub recycle_keeps : (buffer : ℕ) (latency : ℤ) → Good (ViewWithin b) (recycle v buffer latency)
  recycle_keeps buffer latency = recycled_keeps _ (is_latency latency) buffer (v.now + nat_abs latency) (λ n. is.posted)

  pub again_keeps : ViewWithin b (again v)
  again_keeps = mail_within _ _ is.holds.inbox is.posted

  sent_within : (r : Result Sending Fault) → Good (SendingWithin b.extent) r → Good (ViewWithin b) (after_sending v r)
  sent_within (Ok s) within =
      let s_within = within.good s refl in
      good_ok (ViewWithin b) _
      (mail_within s.mail _ s_within.inbox
      (All-append (CopyWithin b) v.acts.posted (parcels_for_others v.actor.me s.copies) is.posted
      (All-map (CopyWithin b) with_message_parcel (for_others v.actor.me s.copies)
      (All-filter (λ (c : Delivery Message). not (c.receiver == v.actor.me)) (λ (c : Delivery Message). AreWithin b.extent c.message.fields) s.copies s_within.copies))))
  sent_within (Err f) within = good_err (ViewWithin b) f

  pub send_keeps : (buffer : ℕ) (latency : ℤ) (fields : List Value) → AreWithin b.extent fields → Good (ViewWithin b) (enqueue v buffer latency fields)
  send_keeps buffer latency fields here =
      let o = slice_get v.machine.buffers buffer in
      let P = SendingWithin b.extent in
      sent_within (send v.machine v.actor v.ctl.mail buffer latency fields v.now)
      (good_cond P (is_latency latency) (sending_from o v.actor v.ctl.mail buffer (nat_abs latency) fields v.now) (Err Latency)
      (λ _. from_within b.extent v.actor fields here v.now o v.ctl.mail buffer (nat_abs latency) is.holds.inbox) (λ _. good_err P Latency))

  -- what is read
  abbrev Read : Message → Type 0
  Read m = AreWithin b.extent m.fields

  found : (o : Option Message) → IfSome o Read → Good Read (ok_or o Front)
  found None here = good_err Read Front
  found (Some m) here = good_ok Read m here

  pub front_reads : (buffer : ℕ) → Good Read (required_front v buffer)
  front_reads buffer =
      found (front_now v buffer)
      (front_in b.extent v.ctl.mail buffer v.now (front v.ctl.mail buffer v.now) (front_first v.ctl.mail buffer v.now) is.holds.inbox)
