-- What is added to a controller's inbox, marks and credits, and no act of a scan sees: each act does the same, with the addition.
use Rattle.std.proofs.Common.{◌≡◌, ◌+◌, ◌-◌, ◌++◌, ◌==◌, ◌&&◌, ℕ, ℤ, Bool, true, false, cond, not, List, [], ◌∷◌, map, filter, Option, None, Some, Result, Ok, Err, Contains, nat_abs, nat_lt, refl, subst, ap, ◌∙◌, slice_get, is_some, length, unwrap_or}
use Rattle.std.specs.List.{fold, list_all}
use Rattle.std.specs.Option.{option_map}
use Rattle.ruby_value.specs.declared.fault.Fault.{Fault}
use Rattle.ruby_value.specs.declared.fault.Fault.TheVariants.{Copies, Latency, Route}
use Rattle.ruby_value.specs.declared.message.Message.{Message}
use Rattle.ruby_value.specs.declared.message.MsgNo.{MsgNo}
use Rattle.ruby_value.specs.declared.setup.BufferPlace.{BufferPlace}
use Rattle.ruby_value.specs.declared.setup.BufferPlace.TheVariants as place
use Rattle.ruby_value.specs.declared.setup.BufferSetup.{BufferSetup}
use Rattle.ruby_value.specs.declared.value.Block.{Block}
use Rattle.ruby_value.specs.declared.value.Value.{Value}
use Rattle.ruby_value.specs.Prelude.{with_mark, Requests}
use Rattle.ruby_value.specs.Front as general
use Rattle.ctl_face.specs.declared.parcel.Credit.{Credit}
use Rattle.ctl_face.specs.Prelude.{acts_after_dequeue, arrived_credits, credit_for, free_of, had_slot, leads_to, least_of, lent_after, lent_at, mail_after_dequeue, mail_if_credited, slots, with_credit, buffer_place, slot_buffer, slot_receiver, slot_size, Acts, again, after_front, at_front, after_callback, called_back, read_back, write_back, InboxMessage, Mail, after_sending, enqueue, IsFront, is_ready, changed_message, without_message, is_latency, LocalView, incoming_message, mail_with_delivery, mail_without, pop, front_now, mail_with_recycled, message_arriving_again, recycle, receiving_buffer, Sending, after_network_copy, copy_limit, local_arrival, local_copy, network_arrival, next_copy, no_copies, receivers_of, send, sending_from, sending_on, with_network_copy, mail_with_waiting, message_waiting_under, stall, Table, after_change, change_if_there, changed_table, table_at, message_waiting_no_longer, with_woken}
use Rattle.ruby_value.specs.declared.asked.BackFault.{BackFault}
use Rattle.ruby_value.specs.Callback as callback
use Rattle.ctl_face.specs.Inbox.{with_message}
use Rattle.ctl_face.proofs.Fronts.{front_first}
use Rattle.ctl_face.proofs.Inboxes.{KeepsNumber}
use Rattle.acts.specs.Prelude.{Done, changes, reads}

abbrev pub mail_moved : (List InboxMessage → List InboxMessage) → (List ℕ → List ℕ) → (List Credit → List Credit) → Mail → Mail
mail_moved f g h mail = record mail { inbox = f mail.inbox; marks = g mail.marks; credits = h mail.credits }

abbrev pub moved : (List InboxMessage → List InboxMessage) → (List ℕ → List ℕ) → (List Credit → List Credit) → LocalView → LocalView
moved f g h v = record v { start = record v.start { mail = mail_moved f g h v.start.mail }; ctl = record v.ctl { mail = mail_moved f g h v.ctl.mail } }

abbrev pub after_view : (LocalView → LocalView) → Result LocalView Fault → Result LocalView Fault
after_view change (Ok w) = Ok (change w)
after_view change (Err e) = Err e

abbrev pub after_done : {A : Type 0} → (LocalView → LocalView) → Result (Done A) Fault → Result (Done A) Fault
after_done change (Ok d) = Ok (record { value = d.value; view = change d.view })
after_done change (Err e) = Err e

-- what an act has to find of such an addition
pub record Passes (me now : ℕ) (f : List InboxMessage → List InboxMessage) (g : List ℕ → List ℕ) (h : List Credit → List Credit) (inbox : List InboxMessage) : Type 0 where
  pub ready : (buffer : ℕ) → filter (is_ready buffer now) (f inbox) ≡ filter (is_ready buffer now) inbox
  pub out : (m : Message) → Contains inbox (incoming_message m) → without_message (f inbox) m.number ≡ f (without_message inbox m.number)
  pub changed :
      (m : Message) → Contains inbox (incoming_message m) → (change : InboxMessage → InboxMessage) → KeepsNumber change
      → changed_message (f inbox) m.number change ≡ f (changed_message inbox m.number change)
  pub woken :
      (test : Option ℕ → Bool) → test None ≡ false
      → map (λ (o : InboxMessage). cond (test o.waiting) (message_waiting_no_longer o) o) (f inbox) ≡ f (map (λ (o : InboxMessage). cond (test o.waiting) (message_waiting_no_longer o) o) inbox)
  pub told : (test : Option ℕ → Bool) → test None ≡ false → filter (λ (o : InboxMessage). test o.waiting) (f inbox) ≡ filter (λ (o : InboxMessage). test o.waiting) inbox
  pub put : (l : List InboxMessage) (m : Message) → m.number.sender ≡ me → with_message (f l) (incoming_message m) ≡ f (with_message l (incoming_message m))
  pub mark : (l : List ℕ) (c : ℕ) → with_mark (g l) c ≡ g (with_mark l c)
  pub credit : (l : List Credit) (c : Credit) → with_credit (h l) c ≡ h (with_credit l c)
  pub arrived : (l : List Credit) (receiver buffer : ℕ) → arrived_credits (h l) receiver buffer now ≡ arrived_credits l receiver buffer now

module _ {A : Type 0} (change : LocalView → LocalView) (v : LocalView) where
  pub reads_moved : (want : Result A Fault) → reads (change v) want ≡ after_done change (reads v want)
  reads_moved (Ok x) = refl
  reads_moved (Err e) = refl

  pub changes_moved : (x : A) (want other : Result LocalView Fault) → other ≡ after_view change want → changes x other ≡ after_done change (changes x want)
  changes_moved x (Ok w) other is = ap (changes x) is
  changes_moved x (Err e) other is = ap (changes x) is

module _ (f : List InboxMessage → List InboxMessage) (g : List ℕ → List ℕ) (h : List Credit → List Credit) (v : LocalView) where
  -- on tables
  after_table : (table : ℕ) (r : Result Table Fault) → after_change (moved f g h v) table r ≡ after_view (moved f g h) (after_change v table r)
  after_table table (Ok t) = refl
  after_table table (Err e) = refl

  pub table_moved : (table : ℕ) (change : Table → Result Table Fault) → changed_table (moved f g h v) table change ≡ after_view (moved f g h) (changed_table v table change)
  table_moved table change = go (table_at v table)
    where
      go : (o : Option Table) → change_if_there (moved f g h v) table change o ≡ after_view (moved f g h) (change_if_there v table change o)
      go None = refl
      go (Some t) = after_table table (change t)

  -- on requests
  call_moved : (call : Requests → Result Requests BackFault) (requests : Option Requests) → called_back (moved f g h v) call requests ≡ after_view (moved f g h) (called_back v call requests)
  call_moved call None = refl
  call_moved call (Some r) = go (call r)
    where
      go : (o : Result Requests BackFault) → after_callback (moved f g h v) o ≡ after_view (moved f g h) (after_callback v o)
      go (Ok after) = refl
      go (Err fault) = refl

  pub read_moved : (line : ℕ) (block : Block) → read_back (moved f g h v) line block ≡ after_view (moved f g h) (read_back v line block)
  read_moved line block = call_moved (λ r. callback.read_back r line block) v.ctl.sequencer

  pub write_moved : (line : ℕ) (block : Block) → write_back (moved f g h v) line block ≡ after_view (moved f g h) (write_back v line block)
  write_moved line block = call_moved (λ r. callback.write_back r line block) v.ctl.sequencer

  module _ (passes : Passes v.actor.me v.now f g h v.ctl.mail.inbox) where
    -- on the front
    pub front_moved : (buffer : ℕ) → front_now (moved f g h v) buffer ≡ front_now v buffer
    front_moved buffer =
        ap (λ (xs : List InboxMessage). option_map (λ (o : InboxMessage). o.message) (general.least (λ (o : InboxMessage). o.message.arrival) (λ (o : InboxMessage). o.message.number) xs)) (passes.ready buffer)

    held : (buffer : ℕ) (m : Message) → front_now v buffer ≡ Some m → Contains v.ctl.mail.inbox (incoming_message m)
    held buffer m is = (subst (IsFront v.ctl.mail.inbox buffer v.now) is (front_first v.ctl.mail buffer v.now)).held

    -- the front is changed in the one mail as in the other
    at_front_moved : (told : MsgNo → Acts) (change other : Message → Mail) (o : Option Message) → ((m : Message) → o ≡ Some m → other m ≡ mail_moved f g h (change m))
        → after_front (moved f g h v) told (at_front other o) ≡ after_view (moved f g h) (after_front v told (at_front change o))
    at_front_moved told change other None same = refl
    at_front_moved told change other (Some m) same = ap (λ (mail : Mail). Ok (record v { start = record v.start { mail = mail_moved f g h v.start.mail }; ctl = record v.ctl { mail = mail }; acts = told m.number })) (same m refl)

    by_front : (told : MsgNo → Acts) (change other : Message → Mail) (buffer : ℕ) → ((m : Message) → front_now v buffer ≡ Some m → other m ≡ mail_moved f g h (change m))
        → after_front (moved f g h v) told (at_front other (front_now (moved f g h v) buffer)) ≡ after_view (moved f g h) (after_front v told (at_front change (front_now v buffer)))
    by_front told change other buffer same =
        ap (λ (o : Option Message). after_front (moved f g h v) told (at_front other o)) (front_moved buffer)
        ∙ at_front_moved told change other (front_now v buffer) same

    credited_moved : (b : Bool) (mail : Mail) (c : Credit) → mail_if_credited b (mail_moved f g h mail) c ≡ mail_moved f g h (mail_if_credited b mail c)
    credited_moved false mail c = refl
    credited_moved true mail c =
        ap (λ (marks : List ℕ). record mail { inbox = f mail.inbox; marks = marks; credits = with_credit (h mail.credits) c }) (passes.mark mail.marks c.arrival)
        ∙ ap (λ (credits : List Credit). record mail { inbox = f mail.inbox; marks = g (with_mark mail.marks c.arrival); credits = credits }) (passes.credit mail.credits c)

    pub pop_moved : (buffer : ℕ) → pop (moved f g h v) buffer ≡ after_view (moved f g h) (pop v buffer)
    pop_moved buffer =
        by_front (acts_after_dequeue v.actor buffer v.now v.acts) (λ (m : Message). mail_after_dequeue v.actor buffer v.now m.number (mail_without v.ctl.mail m))
        (λ (m : Message). mail_after_dequeue v.actor buffer v.now m.number (mail_without (mail_moved f g h v.ctl.mail) m)) buffer
        (λ m is.
        ap (λ (inbox : List InboxMessage). mail_after_dequeue v.actor buffer v.now m.number (record v.ctl.mail { inbox = inbox; marks = g v.ctl.mail.marks; credits = h v.ctl.mail.credits })) (passes.out m (held buffer m is))
        ∙ credited_moved (had_slot v.actor buffer m.number && m.number.sender == v.actor.me) (mail_without v.ctl.mail m) (credit_for v.actor buffer v.now m.number).message)

    pub stall_moved : (buffer line : ℕ) → stall (moved f g h v) buffer line ≡ after_view (moved f g h) (stall v buffer line)
    stall_moved buffer line =
        by_front (λ (number : MsgNo). record v.acts { stalled = v.acts.stalled ++ number ∷ [] }) (mail_with_waiting v.ctl.mail line) (mail_with_waiting (mail_moved f g h v.ctl.mail) line) buffer
        (λ m is. ap (λ (inbox : List InboxMessage). record v.ctl.mail { inbox = inbox; marks = g v.ctl.mail.marks; credits = h v.ctl.mail.credits }) (passes.changed m (held buffer m is) (message_waiting_under line) (λ o. refl)))

    pub recycle_moved : (buffer : ℕ) (latency : ℤ) → recycle (moved f g h v) buffer latency ≡ after_view (moved f g h) (recycle v buffer latency)
    recycle_moved buffer latency = go (λ (number : MsgNo). record v.acts { recycled = v.acts.recycled ++ number ∷ [] }) (v.now + nat_abs latency) (is_latency latency)
      where
        go : (told : MsgNo → Acts) (arrival : ℕ) (b : Bool) → after_front (moved f g h v) told (cond b (at_front (mail_with_recycled (mail_moved f g h v.ctl.mail) arrival) (front_now (moved f g h v) buffer)) (Err Latency))
            ≡ after_view (moved f g h) (after_front v told (cond b (at_front (mail_with_recycled v.ctl.mail arrival) (front_now v buffer)) (Err Latency)))
        go told arrival true =
            by_front told (mail_with_recycled v.ctl.mail arrival) (mail_with_recycled (mail_moved f g h v.ctl.mail) arrival) buffer
            (λ m is.
            ap (λ (inbox : List InboxMessage). record v.ctl.mail { inbox = inbox; marks = with_mark (g v.ctl.mail.marks) arrival; credits = h v.ctl.mail.credits }) (passes.changed m (held buffer m is) (message_arriving_again arrival) (λ o. refl))
            ∙ ap (λ (marks : List ℕ). record v.ctl.mail { inbox = f (changed_message v.ctl.mail.inbox m.number (message_arriving_again arrival)); marks = marks; credits = h v.ctl.mail.credits }) (passes.mark v.ctl.mail.marks arrival))
        go told arrival false = refl

    pub wake_moved : (test : Option ℕ → Bool) → test None ≡ false → with_woken (moved f g h v) (λ (o : InboxMessage). test o.waiting) ≡ moved f g h (with_woken v (λ (o : InboxMessage). test o.waiting))
    wake_moved test none =
        ap (λ (inbox : List InboxMessage). record (moved f g h v) {
          ctl = record v.ctl { mail = record v.ctl.mail { inbox = inbox; marks = g v.ctl.mail.marks; credits = h v.ctl.mail.credits } };
          acts = record v.acts { woken = v.acts.woken ++ map (λ (o : InboxMessage). o.message.number) (filter (λ (o : InboxMessage). test o.waiting) (f v.ctl.mail.inbox)) };
        }) (passes.woken test none)
        ∙ ap (λ (awake : List InboxMessage). record (moved f g h v) {
          ctl = record v.ctl { mail = record v.ctl.mail { inbox = f (map (λ (o : InboxMessage). cond (test o.waiting) (message_waiting_no_longer o) o) v.ctl.mail.inbox); marks = g v.ctl.mail.marks; credits = h v.ctl.mail.credits } };
          acts = record v.acts { woken = v.acts.woken ++ map (λ (o : InboxMessage). o.message.number) awake };
        }) (passes.told test none)

    pub again_moved : again (moved f g h v) ≡ moved f g h (again v)
    again_moved =
        ap (λ (marks : List ℕ). record (moved f g h v) {
          ctl = record v.ctl { mail = record v.ctl.mail { inbox = f v.ctl.mail.inbox; marks = marks; credits = h v.ctl.mail.credits } };
          acts = record v.acts { again = true };
        }) (passes.mark v.ctl.mail.marks (v.now + 1))

    -- on slots
    free_moved : (s : ℕ × ℕ × ℕ) → free_of (mail_moved f g h v.ctl.mail) v.now s ≡ free_of v.ctl.mail v.now s
    free_moved s =
        ap (λ (arrived : ℕ). slot_size s + arrived - lent_at v.ctl.mail.lent (slot_receiver s) (slot_buffer s)) (passes.arrived v.ctl.mail.credits (slot_receiver s) (slot_buffer s))

    pub slots_moved : (buffer : ℕ) → slots (moved f g h v) buffer ≡ slots v buffer
    slots_moved buffer =
        let there = filter (leads_to v.actor buffer (buffer_place v.machine buffer)) v.actor.routes.slots in
        ap (λ (free : ℕ × ℕ × ℕ → ℕ). least_of (map free there)) (λ i s. free_moved s i)

    -- on sends
    abbrev sending_moved : Sending → Sending
    sending_moved s = record s { mail = mail_moved f g h s.mail }

    abbrev after_send : Result Sending Fault → Result Sending Fault
    after_send (Ok s) = Ok (sending_moved s)
    after_send (Err e) = Err e

    delivery_moved : (b : Bool) (mail : Mail) (m : Message) → m.number.sender ≡ v.actor.me → mail_with_delivery b (mail_moved f g h mail) m ≡ mail_moved f g h (mail_with_delivery b mail m)
    delivery_moved false mail m own = refl
    delivery_moved true mail m own =
        ap (λ (inbox : List InboxMessage). record mail { inbox = inbox; marks = with_mark (g mail.marks) m.arrival; credits = h mail.credits }) (passes.put mail.inbox m own)
        ∙ ap (λ (marks : List ℕ). record mail { inbox = f (with_message mail.inbox (incoming_message m)); marks = marks; credits = h mail.credits }) (passes.mark mail.marks m.arrival)

    copy_moved : (network latency : ℕ) (fields : List Value) (s : Sending) (receiver : ℕ) → with_network_copy v.actor network latency fields v.now (sending_moved s) receiver ≡ sending_moved (with_network_copy v.actor network latency fields v.now s receiver)
    copy_moved network latency fields s receiver =
        let arrival = network_arrival v.actor s.mail network latency v.now receiver in
        let copy = next_copy v.actor s.mail receiver (unwrap_or (receiving_buffer v.actor.routes receiver network) 0) arrival fields in
        ap (λ (mail : Mail). record {
          mail = after_network_copy v.actor (record mail { sent = s.mail.sent + 1; copies = s.mail.copies + 1; lent = lent_after v.actor.routes s.mail.lent receiver copy.message.buffer }) network receiver arrival;
          copies = s.copies ++ copy ∷ [];
        }) (delivery_moved (receiver == v.actor.me) s.mail copy.message refl)

    copies_moved : (network latency : ℕ) (fields : List Value) (members : List ℕ) (s : Sending) → fold (with_network_copy v.actor network latency fields v.now) (sending_moved s) members ≡ sending_moved (fold (with_network_copy v.actor network latency fields v.now) s members)
    copies_moved network latency fields [] s = refl
    copies_moved network latency fields (receiver ∷ members) s =
        ap (λ (t : Sending). fold (with_network_copy v.actor network latency fields v.now) t members) (copy_moved network latency fields s receiver)
        ∙ copies_moved network latency fields members (with_network_copy v.actor network latency fields v.now s receiver)

    local_moved : (ordered : Bool) (mail : Mail) (buffer latency : ℕ) (fields : List Value) → local_copy v.actor ordered (mail_moved f g h mail) buffer latency fields v.now ≡ sending_moved (local_copy v.actor ordered mail buffer latency fields v.now)
    local_moved ordered mail buffer latency fields =
        let arrival = local_arrival ordered mail buffer latency v.now in
        let copy = next_copy v.actor mail v.actor.me buffer arrival fields in
        ap (λ (m : Mail). record {
          mail = record m { sent = mail.sent + 1; copies = mail.copies + 1; lent = lent_after v.actor.routes mail.lent v.actor.me buffer; local_last = (local_copy v.actor ordered mail buffer latency fields v.now).mail.local_last };
          copies = copy ∷ [];
        }) (delivery_moved (v.actor.me == v.actor.me) mail copy.message refl)

    unless : (b : Bool) (e : Fault) (r s : Result Sending Fault) → r ≡ after_send s → cond b (Err e) r ≡ after_send (cond b (Err e) s)
    unless true e r s same = refl
    unless false e r s same = same

    on_moved : (p : BufferPlace) (ordered : Bool) (mail : Mail) (buffer latency : ℕ) (fields : List Value) → sending_on p ordered v.actor (mail_moved f g h mail) buffer latency fields v.now ≡ after_send (sending_on p ordered v.actor mail buffer latency fields v.now)
    on_moved place.Local ordered mail buffer latency fields =
        unless (nat_lt copy_limit (mail.copies + 1)) Copies (Ok (local_copy v.actor ordered (mail_moved f g h mail) buffer latency fields v.now)) (Ok (local_copy v.actor ordered mail buffer latency fields v.now))
        (ap (λ (s : Sending). Ok s) (local_moved ordered mail buffer latency fields))
    on_moved (place.To network destination) ordered mail buffer latency fields =
        let members = receivers_of destination fields in
        let here : Result Sending Fault = Ok (fold (with_network_copy v.actor network latency fields v.now) (no_copies mail) members) in
        let other : Result Sending Fault = Ok (fold (with_network_copy v.actor network latency fields v.now) (sending_moved (no_copies mail)) members) in
        unless (not (list_all (λ receiver. is_some (receiving_buffer v.actor.routes receiver network)) members)) Route (cond (nat_lt copy_limit (mail.copies + length members)) (Err Copies) other) (cond (nat_lt copy_limit (mail.copies + length members)) (Err Copies) here)
        (unless (nat_lt copy_limit (mail.copies + length members)) Copies other here (ap (λ (s : Sending). Ok s) (copies_moved network latency fields members (no_copies mail))))
    on_moved (place.From network) ordered mail buffer latency fields = refl

    from_moved : (o : Option BufferSetup) (mail : Mail) (buffer latency : ℕ) (fields : List Value) → sending_from o v.actor (mail_moved f g h mail) buffer latency fields v.now ≡ after_send (sending_from o v.actor mail buffer latency fields v.now)
    from_moved None mail buffer latency fields = refl
    from_moved (Some s) mail buffer latency fields = on_moved s.place s.ordered mail buffer latency fields

    send_moved : (buffer : ℕ) (latency : ℤ) (fields : List Value) → send v.machine v.actor (mail_moved f g h v.ctl.mail) buffer latency fields v.now ≡ after_send (send v.machine v.actor v.ctl.mail buffer latency fields v.now)
    send_moved buffer latency fields = go (is_latency latency)
      where
        go : (b : Bool) → cond b (sending_from (slice_get v.machine.buffers buffer) v.actor (mail_moved f g h v.ctl.mail) buffer (nat_abs latency) fields v.now) (Err Latency)
            ≡ after_send (cond b (sending_from (slice_get v.machine.buffers buffer) v.actor v.ctl.mail buffer (nat_abs latency) fields v.now) (Err Latency))
        go true = from_moved (slice_get v.machine.buffers buffer) v.ctl.mail buffer (nat_abs latency) fields
        go false = refl

    pub enqueue_moved : (buffer : ℕ) (latency : ℤ) (fields : List Value) → enqueue (moved f g h v) buffer latency fields ≡ after_view (moved f g h) (enqueue v buffer latency fields)
    enqueue_moved buffer latency fields =
        ap (after_sending (moved f g h v)) (send_moved buffer latency fields)
        ∙ go (send v.machine v.actor v.ctl.mail buffer latency fields v.now)
      where
        go : (r : Result Sending Fault) → after_sending (moved f g h v) (after_send r) ≡ after_view (moved f g h) (after_sending v r)
        go (Ok s) = refl
        go (Err e) = refl
