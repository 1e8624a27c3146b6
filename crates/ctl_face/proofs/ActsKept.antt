-- What holds of the copies that a scan has sent holds after each act.
use Rattle.std.proofs.Common.{◌≡◌, ℕ, ℤ, zero, suc, ◌+◌, ◌<◌, Bool, true, false, cond, eqb, not, List, [], ◌∷◌, ◌++◌, map, filter, length, All, Contains, IsTrue, refl, sym, ap, subst, ◌∙◌, arith, length-append, Option, None, Some, Result, Ok, Err, nat_abs, slice_get, unwrap_or}
use Rattle.std.proofs.lemmas.List.{get_or-map, length-map, map-append}
use Rattle.std.proofs.lemmas.List.Elements.{All-append, All-contains, All-contains_itself, All-filter, All-map, All-nil, All-weaker, filter-append}
use Rattle.std.proofs.lemmas.Bool.{eq-eqb}
use Rattle.std.specs.Option.{option_map}
use Rattle.std.specs.Prelude.{◌&&◌, count_by}
use Rattle.std.proofs.lemmas.List.Sums.{sum_by-append}
use Rattle.ruby_value.specs.declared.fault.Fault.{Fault}
use Rattle.ruby_value.specs.declared.fault.Fault.TheVariants.{Callback, Front, Latency}
use Rattle.ruby_value.specs.declared.message.Message.{Message}
use Rattle.ruby_value.specs.declared.message.MsgNo.{MsgNo}
use Rattle.ruby_value.specs.declared.setup.BufferPlace.{BufferPlace}
use Rattle.ruby_value.specs.declared.setup.BufferPlace.TheVariants as place
use Rattle.ruby_value.specs.declared.setup.BufferSetup.{BufferSetup}
use Rattle.ruby_value.specs.declared.setup.MachineSetup.{MachineSetup}
use Rattle.ruby_value.specs.declared.value.Block.{Block}
use Rattle.ruby_value.specs.declared.value.Value.{Value}
use Rattle.ruby_value.specs.Prelude.{has_kinds, same_number, Requests, numbers_from}
use Rattle.ctl_face.specs.Prelude.{Acts, acts_after_dequeue, credit_for, had_slot, mail_after_dequeue, mail_if_credited, messages_among, sent_of, ActsFit, IsCreditFor, IsRouted, MailMoves, SentFits, after_front, at_front, after_callback, called_back, read_back, write_back, InboxMessage, Mail, after_sending, enqueue, for_others, NumbersAscend, IsFront, is_latency, Actor, LocalView, incoming_message, message_kinds, mail_without, pop, front_now, mail_with_recycled, message_arriving_again, recycle, Sending, no_copies, send, AddsCopies, IsNetworkCopy, SendAdds, mail_with_waiting, message_waiting_under, stall, Table, after_change, change_if_there, changed_table, table_at, message_waiting_no_longer, with_woken}
use Rattle.ruby_value.specs.declared.message.Delivery.{Delivery}
use Rattle.ruby_value.specs.declared.message.Sent.{Sent}
use Rattle.ctl_face.specs.declared.parcel.Credit.{Credit}
use Rattle.ruby_value.specs.declared.asked.BackFault.{BackFault}
use Rattle.ruby_value.specs.Callback as callback
use Rattle.ctl_face.proofs.Arrivals.{arrives_later}
use Rattle.ctl_face.proofs.Fronts.{front_first}
use Rattle.ctl_face.proofs.Inboxes.{KeepsNumber}
use Rattle.ctl_face.proofs.Moved.{Moved, OwnBelow, numbers-kept, send_moved, single, taken}
use Rattle.ctl_face.proofs.Cases.{Good, good_ok, good_err}
use Rattle.ctl_face.proofs.Parcels.{credits_after_dequeue, credits_after_sending, messages_after_dequeue, messages_after_sending}
use Rattle.ctl_face.proofs.Routed.{routed_on}
use Rattle.ctl_face.proofs.SendAdds.{nothing_added, send_adds}

counts-append : (f : MsgNo → Bool) (xs ys : List MsgNo) → count_by f (xs ++ ys) ≡ count_by f xs + count_by f ys
counts-append f xs ys = sum_by-append (λ (n : MsgNo). cond (f n) 1 0) xs ys

module _ (v : LocalView) (acts : ActsFit v) where
  after_table : (table : ℕ) (r : Result Table Fault) → Good ActsFit (after_change v table r)
  after_table table (Ok t) = good_ok ActsFit _ acts
  after_table table (Err e) = good_err ActsFit e

  pub changed_acts : (table : ℕ) (change : Table → Result Table Fault) → Good ActsFit (changed_table v table change)
  changed_acts table change = go (table_at v table)
    where
      go : (o : Option Table) → Good ActsFit (change_if_there v table change o)
      go None = good_ok ActsFit v acts
      go (Some t) = after_table table (change t)

  at_front_acts : (told : MsgNo → Acts) (change : Message → Mail) (o : Option Message) → ((m : Message) → o ≡ Some m → ActsFit (record v { ctl = record v.ctl { mail = change m }; acts = told m.number })) → Good ActsFit (after_front v told (at_front change o))
  at_front_acts told change None fits = good_err ActsFit Front
  at_front_acts told change (Some m) fits = good_ok ActsFit _ (fits m refl)

  -- a credit of the controller's own changes neither counts nor the inbox
  sent_kept : (b : Bool) (mail : Mail) (c : Credit)
      → SentFits v.machine v.actor v.now v.start.mail.sent mail.sent v.start.mail.copies mail.copies v.acts.sent (messages_among v.acts.posted)
      → SentFits v.machine v.actor v.now v.start.mail.sent (mail_if_credited b mail c).sent v.start.mail.copies (mail_if_credited b mail c).copies v.acts.sent (messages_among v.acts.posted)
  sent_kept true mail c fits = fits
  sent_kept false mail c fits = fits

  moves_kept : (b : Bool) (mail : Mail) (c : Credit) (taken : List MsgNo) → MailMoves v.start.mail.inbox mail.inbox taken v.acts.sent (messages_among v.acts.posted)
      → MailMoves v.start.mail.inbox (mail_if_credited b mail c).inbox taken v.acts.sent (messages_among v.acts.posted)
  moves_kept true mail c taken moves = moves
  moves_kept false mail c taken moves = moves

  -- the front goes out of the inbox, its number is told, and a credit goes to its sender where it had a slot
  pub pop_acts : NumbersAscend v.ctl.mail.inbox → (buffer : ℕ) → Good ActsFit (pop v buffer)
  pop_acts ascends buffer =
      at_front_acts (acts_after_dequeue v.actor buffer v.now v.acts) (λ (m : Message). mail_after_dequeue v.actor buffer v.now m.number (mail_without v.ctl.mail m)) (front_now v buffer) all
    where
      gone : (m : Message) → front_now v buffer ≡ Some m → MailMoves v.start.mail.inbox (mail_without v.ctl.mail m).inbox (v.acts.consumed ++ m.number ∷ []) v.acts.sent (messages_among v.acts.posted)
      gone m is f =
          let front = subst (IsFront v.ctl.mail.inbox buffer v.now) is (front_first v.ctl.mail buffer v.now) in
          let out = taken f v.ctl.mail.inbox (incoming_message m) ascends front.held in
          let told = counts-append f v.acts.consumed (m.number ∷ []) in
          let number = single f m.number in
          let before = acts.1 f in
          omega arith

      all : (m : Message) → front_now v buffer ≡ Some m → ActsFit (record v { ctl = record v.ctl { mail = mail_after_dequeue v.actor buffer v.now m.number (mail_without v.ctl.mail m) }; acts = acts_after_dequeue v.actor buffer v.now v.acts m.number })
      all m is =
          let mine = had_slot v.actor buffer m.number && eqb m.number.sender v.actor.me in
          let credit = (credit_for v.actor buffer v.now m.number).message in
          let mail = mail_without v.ctl.mail m in
          let after = mail_if_credited mine mail credit in
          let same = sym (messages_after_dequeue v.actor buffer v.now m.number v.acts.posted) in (
            subst (λ (ds : List (Delivery Message)). SentFits v.machine v.actor v.now v.start.mail.sent after.sent v.start.mail.copies after.copies v.acts.sent ds) same (sent_kept mine mail credit acts.0),
            subst (λ (ds : List (Delivery Message)). MailMoves v.start.mail.inbox after.inbox (v.acts.consumed ++ m.number ∷ []) v.acts.sent ds) same (moves_kept mine mail credit (v.acts.consumed ++ m.number ∷ []) (gone m is)),
            credits_after_dequeue v.actor buffer v.now m.number v.acts.posted acts.2,
          )

  -- some messages change, but for their numbers
  kept_moves : (test : InboxMessage → Bool) (change : InboxMessage → InboxMessage) → KeepsNumber change
      → MailMoves v.start.mail.inbox (map (λ (o : InboxMessage). cond (test o) (change o) o) v.ctl.mail.inbox) v.acts.consumed v.acts.sent (messages_among v.acts.posted)
  kept_moves test change keeps f =
      let same = ap (count_by f) (numbers-kept test change keeps v.ctl.mail.inbox) in
      let before = acts.1 f in
      omega arith

  pub stall_acts : (buffer line : ℕ) → Good ActsFit (stall v buffer line)
  stall_acts buffer line =
      at_front_acts _ (mail_with_waiting v.ctl.mail line) (front_now v buffer)
      (λ m is. (acts.0, kept_moves (λ (o : InboxMessage). same_number o.message.number m.number) (message_waiting_under line) (λ o. refl), acts.2))

  pub recycle_acts : (buffer : ℕ) (latency : ℤ) → Good ActsFit (recycle v buffer latency)
  recycle_acts buffer latency = go (is_latency latency) (λ (number : MsgNo). record v.acts { recycled = v.acts.recycled ++ number ∷ [] }) (v.now + nat_abs latency)
      (λ m. (acts.0, kept_moves (λ (o : InboxMessage). same_number o.message.number m.number) (message_arriving_again (v.now + nat_abs latency)) (λ o. refl), acts.2))
    where
      go : (b : Bool) (told : MsgNo → Acts) (arrival : ℕ) → ((m : Message) → ActsFit (record v { ctl = record v.ctl { mail = mail_with_recycled v.ctl.mail arrival m }; acts = told m.number }))
          → Good ActsFit (after_front v told (cond b (at_front (mail_with_recycled v.ctl.mail arrival) (front_now v buffer)) (Err Latency)))
      go true told arrival fits = at_front_acts told (mail_with_recycled v.ctl.mail arrival) (front_now v buffer) (λ m is. fits m)
      go false told arrival fits = good_err ActsFit Latency

  pub wake_acts : (test : InboxMessage → Bool) → ActsFit (with_woken v test)
  wake_acts test = (acts.0, kept_moves test message_waiting_no_longer (λ o. refl), acts.2)

  called_acts : (call : Requests → Result Requests BackFault) (requests : Option Requests) → Good ActsFit (called_back v call requests)
  called_acts call None = good_err ActsFit Callback
  called_acts call (Some r) = go (call r)
    where
      go : (o : Result Requests BackFault) → Good ActsFit (after_callback v o)
      go (Ok after) = good_ok ActsFit _ acts
      go (Err fault) = good_err ActsFit Callback

  pub read_acts : (line : ℕ) (block : Block) → Good ActsFit (read_back v line block)
  read_acts line block = called_acts (λ r. callback.read_back r line block) v.ctl.sequencer

  pub write_acts : (line : ℕ) (block : Block) → Good ActsFit (write_back v line block)
  write_acts line block = called_acts (λ r. callback.write_back r line block) v.ctl.sequencer

numbers_append : (sender count n k : ℕ) → numbers_from sender count n ++ numbers_from sender (count + n) k ≡ numbers_from sender count (n + k)
numbers_append sender count zero k = let same : count + 0 ≡ count = omega arith in let all : 0 + k ≡ k = omega arith in rw (same, all) refl
numbers_append sender count (suc n) k =
    let same : count + suc n ≡ count + 1 + n = omega arith in
    let more : suc n + k ≡ suc (n + k) = omega arith in
    rw (same, more) (ap (λ (ns : List MsgNo). record { sender = sender; count = count } ∷ ns) (numbers_append sender (count + 1) n k))

-- a note has the copy's number and receiver
numbers_of_notes : (copies : List (Delivery Message)) → map (λ (n : Sent). n.number) (map sent_of copies) ≡ map (λ (c : Delivery Message). c.message.number) copies
numbers_of_notes [] = refl
numbers_of_notes (c ∷ copies) = ap (λ (ns : List MsgNo). c.message.number ∷ ns) (numbers_of_notes copies)

notes_for_others : (me : ℕ) (copies : List (Delivery Message)) → map sent_of (for_others me copies) ≡ filter (λ (n : Sent). not (eqb n.receiver me)) (map sent_of copies)
notes_for_others me [] = refl
notes_for_others me (c ∷ copies) =
    elim (not (eqb c.receiver me)) as (λ b. map sent_of (cond b (c ∷ for_others me copies) (for_others me copies)) ≡ cond b (sent_of c ∷ filter (λ (n : Sent). not (eqb n.receiver me)) (map sent_of copies)) (filter (λ (n : Sent). not (eqb n.receiver me)) (map sent_of copies))) [
      | true ↦ ap (λ (ns : List Sent). sent_of c ∷ ns) (notes_for_others me copies)
      | false ↦ notes_for_others me copies
    ]

-- with what a send adds
more_sent : (v : LocalView) (acts : SentFits v.machine v.actor v.now v.start.mail.sent v.ctl.mail.sent v.start.mail.copies v.ctl.mail.copies v.acts.sent (messages_among v.acts.posted)) (s : Sending) (receivers : List ℕ) (words : ℕ) (P : Delivery Message → Type 0) → AddsCopies v.actor v.ctl.mail receivers words P s
    → All (λ (c : Delivery Message). v.now < c.message.arrival) s.copies → All (IsRouted v.machine v.actor.routes) (for_others v.actor.me s.copies)
    → SentFits v.machine v.actor v.now v.start.mail.sent s.mail.sent v.start.mail.copies s.mail.copies (v.acts.sent ++ map sent_of s.copies) (messages_among v.acts.posted ++ for_others v.actor.me s.copies)
more_sent v acts s receivers words P adds later routed =
    let n = length v.acts.sent in
    let k = length receivers in
    let many : length s.copies ≡ k = sym (length-map s.copies (λ (c : Delivery Message). c.receiver)) ∙ ap length adds.to in
    let longer : length (v.acts.sent ++ map sent_of s.copies) ≡ n + k = length-append v.acts.sent (map sent_of s.copies) ∙ ap (λ (j : ℕ). n + j) (length-map s.copies sent_of ∙ many) in
    let me = v.actor.me in
    record {
      numbers = map-append (λ (m : Sent). m.number) v.acts.sent (map sent_of s.copies)
          ∙ ap (λ (ns : List MsgNo). ns ++ map (λ (m : Sent). m.number) (map sent_of s.copies)) acts.numbers
          ∙ ap (λ (ns : List MsgNo). numbers_from me v.start.mail.sent n ++ ns) (numbers_of_notes s.copies ∙ adds.numbers ∙ ap (λ (from : ℕ). numbers_from me from k) acts.count)
          ∙ numbers_append me v.start.mail.sent n k ∙ ap (numbers_from me v.start.mail.sent) (sym longer);
      count = (let here = adds.sent in let before = acts.count in omega arith);
      copies_counted = (let here = adds.copies_counted in let before = acts.copies_counted in omega arith);
      arrivals = All-append (λ (m : Sent). v.now < m.arrival) v.acts.sent (map sent_of s.copies) acts.arrivals (All-map (λ (m : Sent). v.now < m.arrival) sent_of s.copies later);
      for_others = map-append sent_of (messages_among v.acts.posted) (for_others me s.copies)
          ∙ ap (λ (ns : List Sent). ns ++ map sent_of (for_others me s.copies)) acts.for_others
          ∙ ap (λ (ns : List Sent). filter (λ (m : Sent). not (eqb m.receiver me)) v.acts.sent ++ ns) (notes_for_others me s.copies)
          ∙ sym (filter-append (λ (m : Sent). not (eqb m.receiver me)) v.acts.sent (map sent_of s.copies));
      routed = All-append (IsRouted v.machine v.actor.routes) (messages_among v.acts.posted) (for_others me s.copies) acts.routed routed;
    }

own_aside : (P : Delivery Message → Type 0) (me : ℕ) (copies : List (Delivery Message)) → map (λ (c : Delivery Message). c.receiver) copies ≡ me ∷ [] → All P (for_others me copies)
own_aside P me [] is = absurd (cc is)
own_aside P me (c ∷ []) is =
    let same : c.receiver ≡ me = cc is in
    rw (eq-eqb c.receiver me same) (All-nil P)
own_aside P me (c ∷ d ∷ rest) is = absurd (cc is)

among_receivers : (copies : List (Delivery Message)) (c : Delivery Message) → Contains copies c → Contains (map (λ (x : Delivery Message). x.receiver) copies) c.receiver
among_receivers copies c there =
    let within = there.1 in
    let same = length-map copies (λ (x : Delivery Message). x.receiver) in
    (there.0, omega arith, get_or-map (λ (x : Delivery Message). x.receiver) copies there.0 c c.receiver within ∙ ap (λ (x : Delivery Message). x.receiver) there.2)

routed_copies : (machine : MachineSetup) (actor : Actor) (mail : Mail) (buffer latency now : ℕ) (fields : List Value) (on : BufferSetup) (p : BufferPlace) (s : Sending) → slice_get machine.buffers buffer ≡ Some on → IsTrue (has_kinds on.kinds fields) → on.place ≡ p
    → SendAdds p on.ordered actor mail buffer latency fields now s → All (IsRouted machine actor.routes) (for_others actor.me s.copies)
routed_copies machine actor mail buffer latency now fields on place.Local s is takes at adds = own_aside (IsRouted machine actor.routes) actor.me s.copies adds.0.to
routed_copies machine actor mail buffer latency now fields on (place.To network destination) s is takes at adds =
    All-filter (λ (c : Delivery Message). not (eqb c.receiver actor.me)) (IsRouted machine actor.routes) s.copies
    (All-weaker (Contains s.copies) (IsRouted machine actor.routes) routed s.copies (All-contains_itself s.copies))
  where
    routed : (c : Delivery Message) → Contains s.copies c → IsRouted machine actor.routes c
    routed c there =
        let copy = All-contains (IsNetworkCopy actor mail network latency fields now) s.copies c adds.0.each there in
        let among = subst (λ (rs : List ℕ). Contains rs c.receiver) adds.0.to (among_receivers s.copies c there) in
        routed_on machine actor.routes c network buffer destination on is at (rw copy.fields_sent takes) (rw copy.fields_sent among) copy.buffer copy.not_recycled
routed_copies machine actor mail buffer latency now fields on (place.From network) s is takes at adds =
    All-filter (λ (c : Delivery Message). not (eqb c.receiver actor.me)) (IsRouted machine actor.routes) s.copies
    (All-weaker (λ (c : Delivery Message). ⊥) (IsRouted machine actor.routes) (λ c none. absurd none) s.copies adds.0.each)

sending_acts : (v : LocalView) (buffer : ℕ) (latency : ℤ) (fields : List Value) (sent : SentFits v.machine v.actor v.now v.start.mail.sent v.ctl.mail.sent v.start.mail.copies v.ctl.mail.copies v.acts.sent (messages_among v.acts.posted)) (o : Option BufferSetup) → slice_get v.machine.buffers buffer ≡ o
    → IsTrue (has_kinds (unwrap_or (option_map (λ (b : BufferSetup). b.kinds) o) []) fields) → (s : Sending) → send v.machine v.actor v.ctl.mail buffer latency fields v.now ≡ Ok s
    → SentFits v.machine v.actor v.now v.start.mail.sent s.mail.sent v.start.mail.copies s.mail.copies (v.acts.sent ++ map sent_of s.copies) (messages_among v.acts.posted ++ for_others v.actor.me s.copies)
sending_acts v buffer latency fields before (Some on) is takes s sent =
    go on.place refl (send_adds v.machine v.actor v.ctl.mail buffer latency fields v.now on s is sent)
  where
    later : All (λ (c : Delivery Message). v.now < c.message.arrival) s.copies
    later = arrives_later v.machine v.actor v.ctl.mail buffer latency fields v.now s sent

    routed : (p : BufferPlace) → on.place ≡ p → SendAdds p on.ordered v.actor v.ctl.mail buffer (nat_abs latency) fields v.now s → All (IsRouted v.machine v.actor.routes) (for_others v.actor.me s.copies)
    routed p at adds = routed_copies v.machine v.actor v.ctl.mail buffer (nat_abs latency) v.now fields on p s is takes at adds

    go : (p : BufferPlace) → on.place ≡ p → SendAdds p on.ordered v.actor v.ctl.mail buffer (nat_abs latency) fields v.now s
        → SentFits v.machine v.actor v.now v.start.mail.sent s.mail.sent v.start.mail.copies s.mail.copies (v.acts.sent ++ map sent_of s.copies) (messages_among v.acts.posted ++ for_others v.actor.me s.copies)
    go place.Local at adds = more_sent v before s _ _ _ adds.0 later (routed place.Local at adds)
    go (place.To network destination) at adds = more_sent v before s _ _ _ adds.0 later (routed (place.To network destination) at adds)
    go (place.From network) at adds = more_sent v before s _ _ _ adds.0 later (routed (place.From network) at adds)
sending_acts v buffer latency fields before None is takes s sent = none (is_latency latency) (rw is at sent)
  where
    none : (b : Bool) → cond b (Ok (no_copies v.ctl.mail)) (Err Latency) ≡ Ok s → SentFits v.machine v.actor v.now v.start.mail.sent s.mail.sent v.start.mail.copies s.mail.copies (v.acts.sent ++ map sent_of s.copies) (messages_among v.acts.posted ++ for_others v.actor.me s.copies)
    none true same =
        let is_none : no_copies v.ctl.mail ≡ s = cc same in
        subst (λ (x : Sending). SentFits v.machine v.actor v.now v.start.mail.sent x.mail.sent v.start.mail.copies x.mail.copies (v.acts.sent ++ map sent_of x.copies) (messages_among v.acts.posted ++ for_others v.actor.me x.copies)) is_none
        (more_sent v before (no_copies v.ctl.mail) [] 0 (λ c. ⊥) (nothing_added v.actor v.ctl.mail) (All-nil (λ (c : Delivery Message). v.now < c.message.arrival)) (All-nil (IsRouted v.machine v.actor.routes)))
    none false same = absurd (cc same)

sent_moves : (v : LocalView) (s : Sending) → MailMoves v.start.mail.inbox v.ctl.mail.inbox v.acts.consumed v.acts.sent (messages_among v.acts.posted) → Moved v.actor v.ctl.mail s
    → MailMoves v.start.mail.inbox s.mail.inbox v.acts.consumed (v.acts.sent ++ map sent_of s.copies) (messages_among v.acts.posted ++ for_others v.actor.me s.copies)
sent_moves v s before step f =
    let new = step.moved f in
    let old = before f in
    let number : Sent → MsgNo = λ n. n.number in
    let of_copy : Delivery Message → MsgNo = λ c. c.message.number in
    let notes = ap (count_by f) (map-append number v.acts.sent (map sent_of s.copies)) ∙ counts-append f (map number v.acts.sent) (map number (map sent_of s.copies)) in
    let of_notes = ap (count_by f) (numbers_of_notes s.copies) in
    let posted = ap (count_by f) (map-append of_copy (messages_among v.acts.posted) (for_others v.actor.me s.copies)) ∙ counts-append f (map of_copy (messages_among v.acts.posted)) (map of_copy (for_others v.actor.me s.copies)) in
    omega arith

pub enqueue_acts : (v : LocalView) (buffer : ℕ) (latency : ℤ) (fields : List Value) → IsTrue (has_kinds (message_kinds v.machine buffer) fields) → OwnBelow v.actor.me v.ctl.mail → ActsFit v → Good ActsFit (enqueue v buffer latency fields)
enqueue_acts v buffer latency fields takes below acts = go (send v.machine v.actor v.ctl.mail buffer latency fields v.now) refl
  where
    go : (r : Result Sending Fault) → send v.machine v.actor v.ctl.mail buffer latency fields v.now ≡ r → Good ActsFit (after_sending v r)
    go (Err e) sent = good_err ActsFit e
    go (Ok s) sent =
        let same = sym (messages_after_sending v.acts.posted v.actor.me s.copies) in
        good_ok ActsFit _ (
          subst (λ (ds : List (Delivery Message)). SentFits v.machine v.actor v.now v.start.mail.sent s.mail.sent v.start.mail.copies s.mail.copies (v.acts.sent ++ map sent_of s.copies) ds) same
              (sending_acts v buffer latency fields acts.0 (slice_get v.machine.buffers buffer) refl takes s sent),
          subst (λ (ds : List (Delivery Message)). MailMoves v.start.mail.inbox s.mail.inbox v.acts.consumed (v.acts.sent ++ map sent_of s.copies) ds) same
              (sent_moves v s acts.1 (send_moved v.actor v.ctl.mail v.machine buffer latency fields v.now s below sent)),
          subst (All (IsCreditFor v.actor v.now)) (sym (credits_after_sending v.acts.posted v.actor.me s.copies)) acts.2,
        )
