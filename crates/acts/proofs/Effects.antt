-- What any act comes to: it refuses, with a fault that isn't `invalid`, or it leaves a local of the same scan, with its marks kept.
use Rattle.std.proofs.Common.{◌≡◌, ◌<◌, ◌+◌, ◌++◌, ◌==◌, ◌&&◌, ℕ, ℤ, Bool, true, false, cond, not, List, [], ◌∷◌, map, Option, None, Some, Result, Ok, Err, nat_abs, nat_le, nat_lt, refl, sym, ◌∙◌, arith, slice_get, is_some, length}
use Rattle.std.proofs.lemmas.Bool.{cond_both}
use Rattle.std.specs.FinMap as finite
use Rattle.std.specs.List.{fold, list_all}
use Rattle.std.specs.Ordering.{nat_cmp}
use Rattle.ruby_value.specs.declared.fault.Fault.{Fault}
use Rattle.ruby_value.specs.declared.fault.Fault.TheVariants.{Absent, Copies, Full, Invalid, Latency, Present, Route}
use Rattle.ruby_value.specs.declared.message.Message.{Message}
use Rattle.ruby_value.specs.declared.message.MsgNo.{MsgNo}
use Rattle.ruby_value.specs.declared.setup.BufferPlace.{BufferPlace}
use Rattle.ruby_value.specs.declared.setup.BufferPlace.TheVariants as place
use Rattle.ruby_value.specs.declared.setup.BufferSetup.{BufferSetup}
use Rattle.ruby_value.specs.declared.setup.MachineSetup.{MachineSetup}
use Rattle.ruby_value.specs.declared.value.Block.{Block}
use Rattle.ruby_value.specs.declared.value.Ref.{Ref}
use Rattle.ruby_value.specs.declared.value.Value.{Value}
use Rattle.ruby_value.specs.Prelude.{with_mark, available, fields_of, made_recent, same_number, set_of, without_line, with_set, Requests}
use Rattle.ctl_face.specs.declared.parcel.Credit.{Credit}
use Rattle.ctl_face.specs.Prelude.{acts_after_dequeue, credit_for, had_slot, mail_after_dequeue, mail_if_credited, Acts, again, allocate, with_line, after_front, at_front, after_callback, called_back, read_back, write_back, InboxMessage, Mail, deallocate, without_line_in, after_sending, enqueue, fields_in, is_latency, Actor, LocalView, SameScan, initial_fields, mail_without, pop, front_now, mail_with_recycled, message_arriving_again, recycle, receiving_buffer, Sending, copy_limit, local_copy, no_copies, receivers_of, send, sending_from, sending_on, with_network_copy, set, table_with_field, mail_with_waiting, message_waiting_under, stall, set_state, Table, CacheTable, DirectoryTable, TbeTable, ParameterTable, after_change, change_if_there, changed_table, table_at, touch, used_line, message_waiting_no_longer, with_woken}
use Rattle.ruby_value.specs.declared.asked.BackFault.{BackFault}
use Rattle.ruby_value.specs.Callback as callback
use Rattle.ctl_face.proofs.Arrivals.{positive}
use Rattle.acts.specs.Prelude.{AreCreditsMarked, AreMarked, CountsStay, IsMarked, KeepsMarks, MarksStay}
use Rattle.acts.proofs.Marks.{credits_marked, credits_put, has_itself, has_more, marked_map, marked_put, marked_with, marked_without, marks_kept, marks_with, sent_is}

-- a fault that isn't `invalid`, if it is one
abbrev pub NotInvalid : {X : Type 0} → Result X Fault → Type 0
NotInvalid (Ok x) = Unit {0}
NotInvalid (Err f) = ¬ (f ≡ Invalid)

pub record Changes (v w : LocalView) : Type 0 where
  pub scan : SameScan v w
  pub counts : CountsStay v w
  pub marks : MarksStay v w
  pub marked : IsMarked v → IsMarked w

abbrev pub Effect : LocalView → Result LocalView Fault → Type 0
Effect v (Ok w) = Changes v w
Effect v (Err f) = ¬ (f ≡ Invalid)

module _ (v : LocalView) where
  -- what isn't mail
  elsewhere : (tables : List Table) (states : finite.FinMap nat_cmp ℕ) (sequencer : Option Requests)
      → Changes v (record v { ctl = record v.ctl { tables = tables; states = states; sequencer = sequencer } })
  elsewhere tables states sequencer = record {
    scan = record { machine = refl; actor = refl; now = refl; start = refl };
    counts = record { fired = refl; stopped = refl };
    marks = marks_kept v.ctl.mail.marks v.now;
    marked = λ is. record { arrivals = is.arrivals; credits = is.credits; next = is.next };
  }

  mails : (mail : Mail) (acts : Acts) → MarksStay v (record v { ctl = record v.ctl { mail = mail }; acts = acts })
      → (IsMarked v → IsMarked (record v { ctl = record v.ctl { mail = mail }; acts = acts })) → Changes v (record v { ctl = record v.ctl { mail = mail }; acts = acts })
  mails mail acts stay marked = record { scan = record { machine = refl; actor = refl; now = refl; start = refl }; counts = record { fired = refl; stopped = refl }; marks = stay; marked = marked }

  -- on tables
  after_table : (table : ℕ) (r : Result Table Fault) → NotInvalid r → Effect v (after_change v table r)
  after_table table (Ok t) valid = elsewhere _ v.ctl.states v.ctl.sequencer
  after_table table (Err f) valid = valid

  table_effect : (table : ℕ) (change : Table → Result Table Fault) → ((t : Table) → NotInvalid (change t)) → Effect v (changed_table v table change)
  table_effect table change valid = go (table_at v table)
    where
      go : (o : Option Table) → Effect v (change_if_there v table change o)
      go None = elsewhere v.ctl.tables v.ctl.states v.ctl.sequencer
      go (Some t) = after_table table (change t) (valid t)

  pub set_effect : (r : Ref) (field : ℕ) (value : Value) → Effect v (set v r field value)
  set_effect r field value = table_effect r.table (λ t. table_with_field t r.line field value (fields_in t r.line)) (λ t. go t (fields_in t r.line))
    where
      go : (t : Table) (o : Option (List Value)) → NotInvalid (table_with_field t r.line field value o)
      go t None = λ is. cc is
      go t (Some fields) = tt

  pub allocate_effect : (table line : ℕ) → Effect v (allocate v table line)
  allocate_effect table line = table_effect table (with_line (initial_fields v.machine table) line) (go (initial_fields v.machine table))
    where
      go : (fields : List Value) (t : Table) → NotInvalid (with_line fields line t)
      go fields (CacheTable cache) =
          let new : Result Table Fault = Ok (CacheTable (with_set cache line (set_of cache line ++ (line, fields) ∷ []))) in
          cond_both (is_some (fields_of (set_of cache line) line)) (Err Present) (cond (not (available cache line)) (Err Full) new) (NotInvalid {X = Table}) (λ _ is. cc is)
          (λ _. cond_both (not (available cache line)) (Err Full) new (NotInvalid {X = Table}) (λ _ is. cc is) (λ _. tt))
      go fields (DirectoryTable directory) = tt
      go fields (TbeTable tbes) =
          let new : Result Table Fault = Ok (TbeTable (record tbes { held = finite.insert tbes.held line fields })) in
          cond_both (finite.contains_key tbes.held line) (Err Present) (cond (nat_le tbes.entries (finite.len tbes.held)) (Err Full) new) (NotInvalid {X = Table}) (λ _ is. cc is)
          (λ _. cond_both (nat_le tbes.entries (finite.len tbes.held)) (Err Full) new (NotInvalid {X = Table}) (λ _ is. cc is) (λ _. tt))
      go fields (ParameterTable values) = tt

  pub deallocate_effect : (table line : ℕ) → Effect v (deallocate v table line)
  deallocate_effect table line = table_effect table (without_line_in line) go
    where
      go : (t : Table) → NotInvalid (without_line_in line t)
      go (CacheTable cache) =
          cond_both (is_some (fields_of (set_of cache line) line)) (Ok (CacheTable (with_set cache line (without_line (set_of cache line) line)))) (Err Absent) (NotInvalid {X = Table}) (λ _. tt) (λ _ is. cc is)
      go (DirectoryTable directory) = tt
      go (TbeTable tbes) =
          cond_both (finite.contains_key tbes.held line) (Ok (TbeTable (record tbes { held = finite.remove tbes.held line }))) (Err Absent) (NotInvalid {X = Table}) (λ _. tt) (λ _ is. cc is)
      go (ParameterTable values) = tt

  pub touch_effect : (table line : ℕ) → Effect v (touch v table line)
  touch_effect table line = table_effect table (used_line line) go
    where
      go : (t : Table) → NotInvalid (used_line line t)
      go (CacheTable cache) =
          cond_both (is_some (fields_of (set_of cache line) line)) (Ok (CacheTable (with_set cache line (made_recent (set_of cache line) line)))) (Err Absent) (NotInvalid {X = Table}) (λ _. tt) (λ _ is. cc is)
      go (DirectoryTable directory) = tt
      go (TbeTable tbes) = tt
      go (ParameterTable values) = tt

  pub set_state_effect : (line new : ℕ) → Changes v (set_state v line new)
  set_state_effect line new = elsewhere v.ctl.tables (finite.insert v.ctl.states line new) v.ctl.sequencer

  -- on requests
  call_effect : (call : Requests → Result Requests BackFault) (requests : Option Requests) → Effect v (called_back v call requests)
  call_effect call None = λ is. cc is
  call_effect call (Some r) = go (call r)
    where
      go : (o : Result Requests BackFault) → Effect v (after_callback v o)
      go (Ok after) = elsewhere v.ctl.tables v.ctl.states (Some after)
      go (Err fault) = λ is. cc is

  pub read_effect : (line : ℕ) (block : Block) → Effect v (read_back v line block)
  read_effect line block = call_effect (λ r. callback.read_back r line block) v.ctl.sequencer

  pub write_effect : (line : ℕ) (block : Block) → Effect v (write_back v line block)
  write_effect line block = call_effect (λ r. callback.write_back r line block) v.ctl.sequencer

  -- on messages
  front_effect : (told : MsgNo → Acts) (change : Message → Mail) (o : Option Message) → ((m : Message) → Changes v (record v { ctl = record v.ctl { mail = change m }; acts = told m.number }))
      → Effect v (after_front v told (at_front change o))
  front_effect told change None does = λ is. cc is
  front_effect told change (Some m) does = does m

  -- with a credit that arrives later, or without it
  credited : (b : Bool) (mail : Mail) (c : Credit) (acts : Acts) → v.now < c.arrival → Changes v (record v { ctl = record v.ctl { mail = mail }; acts = acts })
      → Changes v (record v { ctl = record v.ctl { mail = mail_if_credited b mail c }; acts = acts })
  credited false mail c acts later is = is
  credited true mail c acts later is =
      mails _ acts (marks_with v.ctl.mail.marks mail.marks v.now c.arrival later is.marks)
      (λ before.
      let here = is.marked before in
      record {
        arrivals = marked_with v.now c.arrival mail.marks mail.inbox here.arrivals;
        credits = credits_put v.now mail.marks mail.credits c here.credits;
        next = λ waits. has_more mail.marks c.arrival (v.now + 1) (here.next waits);
      })

  pub pop_effect : (buffer : ℕ) → Effect v (pop v buffer)
  pop_effect buffer =
      front_effect (acts_after_dequeue v.actor buffer v.now v.acts) (λ (m : Message). mail_after_dequeue v.actor buffer v.now m.number (mail_without v.ctl.mail m)) (front_now v buffer)
      (λ m.
      let later : v.now < v.now + 1 = omega arith in
      credited (had_slot v.actor buffer m.number && m.number.sender == v.actor.me) (mail_without v.ctl.mail m) (credit_for v.actor buffer v.now m.number).message (acts_after_dequeue v.actor buffer v.now v.acts m.number) later
      (mails (mail_without v.ctl.mail m) _ (marks_kept v.ctl.mail.marks v.now)
      (λ is. record { arrivals = marked_without v.now v.ctl.mail.marks m.number v.ctl.mail.inbox is.arrivals; credits = is.credits; next = is.next })))

  -- some messages change, but for their arrivals
  kept_arrivals : (test : InboxMessage → Bool) (change : InboxMessage → InboxMessage) (acts : Acts) → acts.again ≡ v.acts.again
      → ((o : InboxMessage) → (change o).message.arrival ≡ o.message.arrival)
      → Changes v (record v { ctl = record v.ctl { mail = record v.ctl.mail { inbox = map (λ (o : InboxMessage). cond (test o) (change o) o) v.ctl.mail.inbox } }; acts = acts })
  kept_arrivals test change acts same keeps =
      mails _ acts (marks_kept v.ctl.mail.marks v.now)
      (λ is. record {
        arrivals = marked_map v.now v.ctl.mail.marks test change (λ o here. rw (keeps o) here) v.ctl.mail.inbox is.arrivals;
        credits = is.credits;
        next = λ waits. is.next (sym same ∙ waits);
      })

  pub stall_effect : (buffer line : ℕ) → Effect v (stall v buffer line)
  stall_effect buffer line =
      front_effect _ (mail_with_waiting v.ctl.mail line) (front_now v buffer)
      (λ m. kept_arrivals (λ (o : InboxMessage). same_number o.message.number m.number) (message_waiting_under line) _ refl (λ o. refl))

  pub wake_effect : (test : InboxMessage → Bool) → Changes v (with_woken v test)
  wake_effect test = kept_arrivals test message_waiting_no_longer _ refl (λ o. refl)

  put_off : (told : MsgNo → Acts) → ((n : MsgNo) → (told n).again ≡ v.acts.again) → (arrival : ℕ) → v.now < arrival → (m : Message)
      → Changes v (record v { ctl = record v.ctl { mail = mail_with_recycled v.ctl.mail arrival m }; acts = told m.number })
  put_off told same arrival later m =
      let marks = with_mark v.ctl.mail.marks arrival in
      mails (mail_with_recycled v.ctl.mail arrival m) (told m.number) (marks_with v.ctl.mail.marks v.ctl.mail.marks v.now arrival later (marks_kept v.ctl.mail.marks v.now))
      (λ is. record {
        arrivals = marked_map v.now marks (λ (o : InboxMessage). same_number o.message.number m.number) (message_arriving_again arrival) (λ o here _. has_itself v.ctl.mail.marks arrival) v.ctl.mail.inbox (marked_with v.now arrival v.ctl.mail.marks v.ctl.mail.inbox is.arrivals);
        credits = credits_marked v.now arrival v.ctl.mail.marks v.ctl.mail.credits is.credits;
        next = λ waits. (marks_with v.ctl.mail.marks v.ctl.mail.marks v.now arrival later (marks_kept v.ctl.mail.marks v.now)).stay (v.now + 1) (is.next (sym (same m.number) ∙ waits));
      })

  pub recycle_effect : (buffer : ℕ) (latency : ℤ) → Effect v (recycle v buffer latency)
  recycle_effect buffer latency = go (λ (number : MsgNo). record v.acts { recycled = v.acts.recycled ++ number ∷ [] }) (λ n. refl) (is_latency latency) refl
    where
      go : (told : MsgNo → Acts) → ((n : MsgNo) → (told n).again ≡ v.acts.again) → (b : Bool) → is_latency latency ≡ b
          → Effect v (after_front v told (cond b (at_front (mail_with_recycled v.ctl.mail (v.now + nat_abs latency)) (front_now v buffer)) (Err Latency)))
      go told same true is =
          let some = positive latency is in
          front_effect told (mail_with_recycled v.ctl.mail (v.now + nat_abs latency)) (front_now v buffer) (put_off told same (v.now + nat_abs latency) (omega arith))
      go told same false is = λ valid. cc valid

  pub again_effect : Changes v (again v)
  again_effect =
      let later : v.now < v.now + 1 = omega arith in
      mails _ (record v.acts { again = true }) (marks_with v.ctl.mail.marks v.ctl.mail.marks v.now (v.now + 1) later (marks_kept v.ctl.mail.marks v.now))
      (λ is. record { arrivals = marked_with v.now (v.now + 1) v.ctl.mail.marks v.ctl.mail.inbox is.arrivals; credits = credits_marked v.now (v.now + 1) v.ctl.mail.marks v.ctl.mail.credits is.credits; next = λ _. has_itself v.ctl.mail.marks (v.now + 1) })

-- a send refuses with faults of its own
sends_on : (p : BufferPlace) (ordered : Bool) (actor : Actor) (mail : Mail) (buffer latency : ℕ) (fields : List Value) (now : ℕ) → NotInvalid (sending_on p ordered actor mail buffer latency fields now)
sends_on place.Local ordered actor mail buffer latency fields now =
    cond_both (nat_lt copy_limit (mail.copies + 1)) (Err Copies) (Ok (local_copy actor ordered mail buffer latency fields now)) (NotInvalid {X = Sending}) (λ _ is. cc is) (λ _. tt)
sends_on (place.To network destination) ordered actor mail buffer latency fields now =
    let members = receivers_of destination fields in
    let sending : Result Sending Fault = Ok (fold (with_network_copy actor network latency fields now) (no_copies mail) members) in
    cond_both (not (list_all (λ receiver. is_some (receiving_buffer actor.routes receiver network)) members)) (Err Route) (cond (nat_lt copy_limit (mail.copies + length members)) (Err Copies) sending) (NotInvalid {X = Sending}) (λ _ is. cc is)
    (λ _. cond_both (nat_lt copy_limit (mail.copies + length members)) (Err Copies) sending (NotInvalid {X = Sending}) (λ _ is. cc is) (λ _. tt))
sends_on (place.From network) ordered actor mail buffer latency fields now = tt

sends_from : (o : Option BufferSetup) (actor : Actor) (mail : Mail) (buffer latency : ℕ) (fields : List Value) (now : ℕ) → NotInvalid (sending_from o actor mail buffer latency fields now)
sends_from None actor mail buffer latency fields now = tt
sends_from (Some s) actor mail buffer latency fields now = sends_on s.place s.ordered actor mail buffer latency fields now

sends : (machine : MachineSetup) (actor : Actor) (mail : Mail) (buffer : ℕ) (latency : ℤ) (fields : List Value) (now : ℕ) → NotInvalid (send machine actor mail buffer latency fields now)
sends machine actor mail buffer latency fields now =
    cond_both (is_latency latency) (sending_from (slice_get machine.buffers buffer) actor mail buffer (nat_abs latency) fields now) (Err Latency) (NotInvalid {X = Sending})
    (λ _. sends_from (slice_get machine.buffers buffer) actor mail buffer (nat_abs latency) fields now) (λ _ is. cc is)

pub send_effect : (v : LocalView) (buffer : ℕ) (latency : ℤ) (fields : List Value) → Effect v (enqueue v buffer latency fields)
send_effect v buffer latency fields = go (send v.machine v.actor v.ctl.mail buffer latency fields v.now) refl (sends v.machine v.actor v.ctl.mail buffer latency fields v.now)
  where
    go : (r : Result Sending Fault) → send v.machine v.actor v.ctl.mail buffer latency fields v.now ≡ r → NotInvalid r → Effect v (after_sending v r)
    go (Err e) sent valid = valid
    go (Ok s) sent valid =
        let kept : KeepsMarks v.ctl.mail.marks v.now s.mail.marks =
        sent_is v.now (λ inbox marks credits. KeepsMarks v.ctl.mail.marks v.now marks) (λ inbox marks credits m later is. marks_with v.ctl.mail.marks marks v.now m.arrival later is)
        v.machine v.actor v.ctl.mail buffer latency fields s sent (marks_kept v.ctl.mail.marks v.now) in
        record {
          scan = record { machine = refl; actor = refl; now = refl; start = refl };
          counts = record { fired = refl; stopped = refl };
          marks = kept;
          marked = λ is. record {
            arrivals = sent_is v.now (λ inbox marks credits. AreMarked v.now marks inbox) (λ inbox marks credits m later here. marked_put v.now marks inbox m here) v.machine v.actor v.ctl.mail buffer latency fields s sent is.arrivals;
            credits = sent_is v.now (λ inbox marks credits. AreCreditsMarked v.now marks credits) (λ inbox marks credits m later here. credits_marked v.now m.arrival marks credits here) v.machine v.actor v.ctl.mail buffer latency fields s sent is.credits;
            next = λ waits. kept.stay (v.now + 1) (is.next waits);
          };
        }
