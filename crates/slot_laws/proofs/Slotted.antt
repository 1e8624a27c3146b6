-- Slots and credits after each act, and so after each body.
use Rattle.std.proofs.Common.{◌≡◌, ◌+◌, ◌++◌, ◌==◌, ◌&&◌, ◌∷◌, ℕ, ℤ, Bool, true, false, cond, List, [], map, Option, None, Some, Result, Ok, Err, nat_abs, nat_le, refl, subst, arith, is_none, slice_get}
use Rattle.std.proofs.lemmas.Bool.{and_parts, eqb-true}
use Rattle.ruby_value.specs.declared.asked.BackFault.{BackFault}
use Rattle.ruby_value.specs.declared.fault.Fault.{Fault}
use Rattle.ruby_value.specs.declared.fault.Fault.TheVariants.{Latency}
use Rattle.ruby_value.specs.declared.message.Message.{Message}
use Rattle.ruby_value.specs.declared.message.MsgNo.{MsgNo}
use Rattle.ruby_value.specs.declared.setup.BufferPlace.{BufferPlace}
use Rattle.ruby_value.specs.declared.setup.BufferPlace.TheVariants as place
use Rattle.ruby_value.specs.declared.setup.BufferSetup.{BufferSetup}
use Rattle.ruby_value.specs.declared.setup.MachineSetup.{MachineSetup}
use Rattle.ruby_value.specs.declared.value.Block.{Block}
use Rattle.ruby_value.specs.declared.value.Value.{Value}
use Rattle.ruby_value.specs.Prelude.{Requests, same_number, with_mark}
use Rattle.ruby_value.specs.Callback as callback
use Rattle.ctl_face.specs.Prelude.{Actor, Acts, Ctl, InboxMessage, IsFront, IsLawful, LocalView, Mail, SendAdds, Sending, Table, acts_after_dequeue, after_callback, after_change, after_front, after_sending, allocate, at_front, block_after_write, called_back, change_if_there, changed_table, deallocate, enqueue, fields_in, front_now, get, incoming_message, initial_fields, is_latency, is_under, mail_after_dequeue, mail_with_recycled, mail_with_waiting, mail_without, message_arriving_again, message_waiting_no_longer, message_waiting_under, no_copies, parcels_for_others, pop, probe, read_back, recycle, reference_to, required_front, scan_view, send, sent_of, set, stall, table_at, table_with_field, touch, used_line, with_line, with_woken, without_line_in, write_back}
use Rattle.ctl_face.proofs.Fronts.{front_first}
use Rattle.ctl_face.proofs.LawfulAfter.{own_below}
use Rattle.ctl_face.proofs.SendAdds.{nothing_added, send_adds}
use Rattle.acts.specs.Prelude.{Act, Now, Me, Get, Set, Lookup, Avail, Probe, Allocate, Deallocate, Touch, Free, Ready, Front, Pop, Stall, Wake, WakeAll, Recycle, Send, Slots, ReadBack, WriteBack, State, SetState, Again, Acting, run, HoldsAfter, Done, changes, does_served, IsLeft, serves}
use Rattle.acts.proofs.Laws.{all_keeps, keeps_where_served}
use Rattle.acts.proofs.Lawful.{holds_reads, lawful_act}
use Rattle.acts.proofs.Scans.{weaker_after}
use Rattle.slot_laws.specs.Prelude.{HasSlotted, MovesSlots, has_size}
use Rattle.slot_laws.proofs.Slotting.{consumed_slots, marked, none_either, renewed, sent_slots}

abbrev After : Result LocalView Fault → Type 0
After (Ok w) = HasSlotted w
After (Err f) = Unit {0}

after_changes : {A : Type 0} (x : A) (r : Result LocalView Fault) → After r → HoldsAfter HasSlotted (changes x r)
after_changes x (Ok w) is = is
after_changes x (Err f) is = tt

module _ (v : LocalView) (is : HasSlotted v) where
  after_table : (table : ℕ) (r : Result Table Fault) → After (after_change v table r)
  after_table table (Ok t) = is
  after_table table (Err e) = tt

  table_slots : (table : ℕ) (change : Table → Result Table Fault) → After (changed_table v table change)
  table_slots table change = go (table_at v table)
    where
      go : (o : Option Table) → After (change_if_there v table change o)
      go None = is
      go (Some t) = after_table table (change t)

  called_slots : (call : Requests → Result Requests BackFault) (requests : Option Requests) → After (called_back v call requests)
  called_slots call None = tt
  called_slots call (Some r) = go (call r)
    where
      go : (o : Result Requests BackFault) → After (after_callback v o)
      go (Ok after) = is
      go (Err fault) = tt

  front_slots : (told : MsgNo → Acts) (change : Message → Mail) (o : Option Message) → ((m : Message) → o ≡ Some m → HasSlotted (record v { ctl = record v.ctl { mail = change m }; acts = told m.number })) → After (after_front v told (at_front change o))
  front_slots told change None slots = tt
  front_slots told change (Some m) slots = slots m refl

  pop_slots : IsLawful v → (buffer : ℕ) → After (pop v buffer)
  pop_slots lawful buffer =
      front_slots (acts_after_dequeue v.actor buffer v.now v.acts) (λ (m : Message). mail_after_dequeue v.actor buffer v.now m.number (mail_without v.ctl.mail m)) (front_now v buffer)
      (λ m here.
      let front = subst (IsFront v.ctl.mail.inbox buffer v.now) here (front_first v.ctl.mail buffer v.now) in
      let there = and_parts (m.buffer == buffer && nat_le m.arrival v.now) true front.ready in
      let at = and_parts (m.buffer == buffer) (nat_le m.arrival v.now) there.0 in
      consumed_slots v.actor v.now v.start.mail v.ctl.mail v.acts.sent v.acts.posted is buffer m (eqb-true m.buffer buffer at.0) lawful.scan.fits.mail.inbox_ascends front.held)

  stall_slots : (buffer line : ℕ) → After (stall v buffer line)
  stall_slots buffer line =
      front_slots _ (mail_with_waiting v.ctl.mail line) (front_now v buffer)
      (λ m here.
      renewed v.actor v.now v.start.mail v.ctl.mail v.acts.sent v.acts.posted is v.ctl.mail.marks (λ (o : InboxMessage). same_number o.message.number m.number) (message_waiting_under line) (λ sender b o. refl))

  recycle_slots : (buffer : ℕ) (latency : ℤ) → After (recycle v buffer latency)
  recycle_slots buffer latency = go (λ (number : MsgNo). record v.acts { recycled = v.acts.recycled ++ number ∷ [] }) (λ n. refl) (λ n. refl) (is_latency latency)
    where
      go : (told : MsgNo → Acts) → ((n : MsgNo) → (told n).sent ≡ v.acts.sent) → ((n : MsgNo) → (told n).posted ≡ v.acts.posted) → (b : Bool)
          → After (after_front v told (cond b (at_front (mail_with_recycled v.ctl.mail (v.now + nat_abs latency)) (front_now v buffer)) (Err Latency)))
      go told sent posted true =
          front_slots told (mail_with_recycled v.ctl.mail (v.now + nat_abs latency)) (front_now v buffer)
          (λ m here.
          let arrival = v.now + nat_abs latency in
          rw (sent m.number, posted m.number)
          (renewed v.actor v.now v.start.mail v.ctl.mail v.acts.sent v.acts.posted is (with_mark v.ctl.mail.marks arrival) (λ (o : InboxMessage). same_number o.message.number m.number) (message_arriving_again arrival) (λ sender b o. refl)))
      go told sent posted false = tt

  wake_slots : (test : InboxMessage → Bool) → HasSlotted (with_woken v test)
  wake_slots test = renewed v.actor v.now v.start.mail v.ctl.mail v.acts.sent v.acts.posted is v.ctl.mail.marks test message_waiting_no_longer (λ sender b o. refl)

  -- after copies were made
  abbrev Sends : Sending → Type 0
  Sends s = MovesSlots v.actor v.now v.start.mail s.mail (v.acts.sent ++ map sent_of s.copies) (v.acts.posted ++ parcels_for_others v.actor.me s.copies)

  sending_slots : IsLawful v → (buffer : ℕ) (latency : ℤ) (fields : List Value) (o : Option BufferSetup) → slice_get v.machine.buffers buffer ≡ o → (s : Sending) → send v.machine v.actor v.ctl.mail buffer latency fields v.now ≡ Ok s → Sends s
  sending_slots lawful buffer latency fields (Some on) there s sent =
      go on.place (send_adds v.machine v.actor v.ctl.mail buffer latency fields v.now on s there sent)
    where
      go : (p : BufferPlace) → SendAdds p on.ordered v.actor v.ctl.mail buffer (nat_abs latency) fields v.now s → Sends s
      go place.Local adds = sent_slots v.actor v.now v.start.mail v.ctl.mail v.acts.sent v.acts.posted is s _ _ _ adds.0 (own_below v lawful.scan)
      go (place.To network destination) adds = sent_slots v.actor v.now v.start.mail v.ctl.mail v.acts.sent v.acts.posted is s _ _ _ adds.0 (own_below v lawful.scan)
      go (place.From network) adds = sent_slots v.actor v.now v.start.mail v.ctl.mail v.acts.sent v.acts.posted is s _ _ _ adds.0 (own_below v lawful.scan)
  sending_slots lawful buffer latency fields None there s sent = none (is_latency latency) (rw there at sent)
    where
      none : (b : Bool) → cond b (Ok (no_copies v.ctl.mail)) (Err Latency) ≡ Ok s → Sends s
      none true same =
          let is_none : no_copies v.ctl.mail ≡ s = cc same in
          subst Sends is_none
          (sent_slots v.actor v.now v.start.mail v.ctl.mail v.acts.sent v.acts.posted is (no_copies v.ctl.mail) [] 0 (λ c. ⊥) (nothing_added v.actor v.ctl.mail) (own_below v lawful.scan))
      none false same = absurd (cc same)

  enqueue_slots : IsLawful v → (buffer : ℕ) (latency : ℤ) (fields : List Value) → After (enqueue v buffer latency fields)
  enqueue_slots lawful buffer latency fields = go (send v.machine v.actor v.ctl.mail buffer latency fields v.now) refl
    where
      go : (r : Result Sending Fault) → send v.machine v.actor v.ctl.mail buffer latency fields v.now ≡ r → After (after_sending v r)
      go (Err e) sent = tt
      go (Ok s) sent = sending_slots lawful buffer latency fields (slice_get v.machine.buffers buffer) refl s sent

slots_act : (a : Act) (v : LocalView) → IsLawful v → HasSlotted v → HoldsAfter HasSlotted (does_served a v)
slots_act Now v l is = is
slots_act Me v l is = is
slots_act (Get r field) v l is = holds_reads HasSlotted v (get v r field) is
slots_act (Set r field value) v l is = after_changes tt (set v r field value) (table_slots v is r.table (λ t. table_with_field t r.line field value (fields_in t r.line)))
slots_act (Lookup table line) v l is = is
slots_act (Avail table line) v l is = is
slots_act (Probe table line) v l is = holds_reads HasSlotted v (probe v table line) is
slots_act (Allocate table line) v l is = after_changes (reference_to table line) (allocate v table line) (table_slots v is table (with_line (initial_fields v.machine table) line))
slots_act (Deallocate table line) v l is = after_changes tt (deallocate v table line) (table_slots v is table (without_line_in line))
slots_act (Touch table line) v l is = after_changes tt (touch v table line) (table_slots v is table (used_line line))
slots_act (Free table) v l is = is
slots_act (Ready buffer) v l is = is
slots_act (Front buffer) v l is = holds_reads HasSlotted v (required_front v buffer) is
slots_act (Pop buffer) v l is = after_changes tt (pop v buffer) (pop_slots v is l buffer)
slots_act (Stall buffer line) v l is = after_changes tt (stall v buffer line) (stall_slots v is buffer line)
slots_act (Wake line) v l is = wake_slots v is _
slots_act WakeAll v l is = wake_slots v is _
slots_act (Recycle buffer latency) v l is = after_changes tt (recycle v buffer latency) (recycle_slots v is buffer latency)
slots_act (Send buffer latency fields) v l is = after_changes tt (enqueue v buffer latency fields) (enqueue_slots v is l buffer latency fields)
slots_act (Slots buffer) v l is = is
slots_act (ReadBack line block) v l is = after_changes tt (read_back v line block) (called_slots v is (λ r. callback.read_back r line block) v.ctl.sequencer)
slots_act (WriteBack line block) v l is = after_changes (block_after_write v line block) (write_back v line block) (called_slots v is (λ r. callback.write_back r line block) v.ctl.sequencer)
slots_act (State line) v l is = is
slots_act (SetState line new) v l is = is
slots_act Again v l is = marked v.actor v.now v.start.mail v.ctl.mail v.acts.sent v.acts.posted is (with_mark v.ctl.mail.marks (v.now + 1))

abbrev LawfulSlotted : LocalView → Type 0
LawfulSlotted v = IsLawful v × HasSlotted v

both_after : {A : Type 0} (r : Result (Done A) Fault) → HoldsAfter IsLawful r → HoldsAfter HasSlotted r → HoldsAfter LawfulSlotted r
both_after (Ok d) lawful slots = (lawful, slots)
both_after (Err f) lawful slots = tt

pub slots_move : {A : Type 0} (p : Acting A) (v : LocalView) → IsLawful v → HasSlotted v → HoldsAfter HasSlotted (run p v)
slots_move p v lawful is =
    weaker_after LawfulSlotted HasSlotted (λ w both. both.1) (run p v)
    (all_keeps LawfulSlotted (keeps_where_served LawfulSlotted (λ a w served both. both_after (does_served a w) (lawful_act a w served both.0) (slots_act a w both.0 both.1))) p v (lawful, is))

-- what any body leaves
pub left_slotted : (v w : LocalView) → IsLeft v w → IsLawful v → HasSlotted v → HasSlotted w
left_slotted v w left lawful is = subst (HoldsAfter HasSlotted) left.ends (slots_move left.body v lawful is)

-- nothing has been done as a scan begins
pub slots_begin : (machine : MachineSetup) (actor : Actor) (now : ℕ) (ctl : Ctl) → HasSlotted (scan_view machine actor now ctl)
slots_begin machine actor now ctl = record {
  lent = λ r b. let none = none_either (has_size actor.routes r b) in omega arith;
  from_others = λ sender b other there sized. omega arith;
  from_itself = λ b there sized. omega arith;
  other_receivers = λ r b other. refl;
  arrived = λ r b. refl;
}
