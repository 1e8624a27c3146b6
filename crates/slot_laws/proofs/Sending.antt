-- What one act sends to a buffer with a size: no copy, but of a send on a buffer that leads there, which makes one at most.
use Rattle.std.proofs.Common.{◌≡◌, ◌<◌, ◌≤◌, ◌+◌, ◌++◌, ◌==◌, ◌&&◌, ◌∙◌, ℕ, ℤ, Bool, true, false, cond, List, [], ◌∷◌, All, Option, None, Some, Result, Ok, Err, eq-eqb, eqb-true, get_or, length, map, nat_abs, nat_lt, refl, sym, ap, subst, arith, slice_get}
use Rattle.std.specs.Prelude.{count_by}
use Rattle.std.specs.List.{AllPairs, fold}
use Rattle.std.specs.Option.{option_map}
use Rattle.std.proofs.lemmas.Bool.{and_from, cond_both}
use Rattle.std.proofs.lemmas.Bool.Decides.{nat_tests}
use Rattle.std.proofs.lemmas.List.Elements.{All-cons, All-head, All-nil, All-tail, All-weaker}
use Rattle.ruby_value.proofs.Ordered.{AllPairs-head, AllPairs-insert, AllPairs-nil, AllPairs-tail}
use Rattle.ruby_value.specs.declared.asked.BackFault.{BackFault}
use Rattle.ruby_value.specs.declared.fault.Fault.{Fault}
use Rattle.ruby_value.specs.declared.fault.Fault.TheVariants.{Latency, Reference}
use Rattle.ruby_value.specs.declared.message.Delivery.{Delivery}
use Rattle.ruby_value.specs.declared.message.Message.{Message}
use Rattle.ruby_value.specs.declared.message.MsgNo.{MsgNo}
use Rattle.ruby_value.specs.declared.setup.BufferPlace.{BufferPlace}
use Rattle.ruby_value.specs.declared.setup.BufferPlace.TheVariants as place
use Rattle.ruby_value.specs.declared.setup.BufferSetup.{BufferSetup}
use Rattle.ruby_value.specs.declared.value.Value.{Value}
use Rattle.ruby_value.specs.declared.value.Value.TheVariants.{Dest}
use Rattle.ruby_value.specs.Prelude.{Requests, with_member}
use Rattle.ruby_value.specs.Callback as callback
use Rattle.ctl_face.specs.Prelude.{Acts, LocalView, Mail, SendAdds, Sending, Table, acts_after_dequeue, after_callback, after_change, after_front, after_sending, allocate, at_front, block_after_write, buffer_place, called_back, change_if_there, changed_table, deallocate, enqueue, fields_in, front_now, get, initial_fields, is_buffer, is_latency, leads_to, mail_after_dequeue, mail_with_recycled, mail_with_waiting, mail_without, no_copies, pop, probe, read_back, receivers_of, receiving_buffer, recycle, reference_to, required_front, send, sent_of, set, slot_buffer, slot_receiver, stall, table_at, table_with_field, touch, used_line, with_line, without_line_in, write_back}
use Rattle.ctl_face.specs.Send.{members_of}
use Rattle.ctl_face.proofs.SendAdds.{send_adds}
use Rattle.acts.specs.Prelude.{Act, Now, Me, Get, Set, Lookup, Avail, Probe, Allocate, Deallocate, Touch, Free, Ready, Front, Pop, Stall, Wake, WakeAll, Recycle, Send, Slots, ReadBack, WriteBack, State, SetState, Again, HoldsAfter, changes, does, does_served, reads, serves}
use Rattle.slot_laws.specs.Prelude.{copies_sent, is_note_to}
use Rattle.slot_laws.proofs.Counts.{count-append, count-cons, count-map, count-none, one}
use Rattle.slot_laws.proofs.Settling.{count_le}

-- A message names each receiver once.

abbrev Ascend : List ℕ → Type 0
Ascend receivers = AllPairs (λ (a b : ℕ). a < b) receivers

ascend_with : (members : List ℕ) (receivers : List ℕ) → Ascend receivers → Ascend (fold with_member receivers members)
ascend_with [] receivers ascends = ascends
ascend_with (m ∷ members) receivers ascends =
    ascend_with members (with_member receivers m)
    (AllPairs-insert (λ (a b : ℕ). a < b) (λ a b c first second. omega arith) (λ a. nat_lt a m) (λ b. nat_lt m b) m (λ a is. less a m is) (λ b is. less m b is) receivers ascends)
  where
    less : (a b : ℕ) → nat_lt a b ≡ true → a < b
    less a b is = grind (arith, nat_tests, is)

members_ascend : (o : Option Value) → Ascend (members_of o)
members_ascend (Some (Dest members)) = ascend_with members [] (AllPairs-nil (λ (a b : ℕ). a < b))
members_ascend _ = AllPairs-nil (λ (a b : ℕ). a < b)

receivers_ascend : (destination : Option ℕ) (fields : List Value) → Ascend (receivers_of destination fields)
receivers_ascend None fields = AllPairs-nil (λ (a b : ℕ). a < b)
receivers_ascend (Some destination) fields = members_ascend (slice_get fields destination)

abbrev is_this : ℕ → ℕ → Bool
is_this r x = x == r

once : (r : ℕ) (receivers : List ℕ) → Ascend receivers → count_by (is_this r) receivers ≤ 1
once r [] ascends = omega arith
once r (x ∷ xs) ascends = by (x == r) refl (count-cons (is_this r) x xs) (once r xs (AllPairs-tail (λ (a b : ℕ). a < b) x xs ascends))
  where
    other : x ≡ r → (y : ℕ) → x < y → is_this r y ≡ false
    other same y above = apart y r (omega (arith, same, above))
      where
        apart : (a b : ℕ) → b < a → (a == b) ≡ false
        apart a b is = grind (arith, nat_tests, is)

    by : (b : Bool) → (x == r) ≡ b → count_by (is_this r) (x ∷ xs) ≡ one (is_this r) x + count_by (is_this r) xs → count_by (is_this r) xs ≤ 1 → count_by (is_this r) (x ∷ xs) ≤ 1
    by true is all rest =
        let none = count-none (is_this r) xs (All-weaker (λ (y : ℕ). x < y) (λ (y : ℕ). is_this r y ≡ false) (other (eqb-true x r is)) xs (AllPairs-head (λ (a b : ℕ). a < b) x xs ascends)) in
        let here : one (is_this r) x ≡ 1 = ap (λ (k : Bool). cond k 1 0) is in
        omega arith
    by false is all rest =
        let here : one (is_this r) x ≡ 0 = ap (λ (k : Bool). cond k 1 0) is in
        omega arith

pub from_map : {X Y : Type 0} (P : Y → Type 0) (f : X → Y) (xs : List X) → All P (map f xs) → All (λ x. P (f x)) xs
from_map P f [] all = All-nil (λ x. P (f x))
from_map P f (x ∷ xs) all = All-cons (λ y. P (f y)) x xs (All-head P (f x) (map f xs) all) (from_map P f xs (All-tail P (f x) (map f xs) all))

abbrev copies_or : Result Sending Fault → List (Delivery Message)
copies_or (Ok s) = s.copies
copies_or (Err f) = []

-- Copies to one buffer of a receiver.

module _ (slot : ℕ × ℕ × ℕ) where
  abbrev r : ℕ
  r = slot_receiver slot

  abbrev b : ℕ
  b = slot_buffer slot

  abbrev pub sent_here : LocalView → ℕ
  sent_here v = copies_sent v.acts.sent r b

  -- a send on this buffer makes one copy at most there
  abbrev pub sends_here : LocalView → Act → ℕ
  sends_here v (Send other latency fields) = cond (leads_to v.actor other (buffer_place v.machine other) slot) 1 0
  sends_here v _ = 0

  abbrev note : Delivery Message → Bool
  note c = is_note_to r b (sent_of c)

  at_most_one : (copies : List (Delivery Message)) (receivers : List ℕ) → map (λ (c : Delivery Message). c.receiver) copies ≡ receivers → Ascend receivers → count_by note copies ≤ 1
  at_most_one copies receivers to ascends =
      let few = count_le note (λ (c : Delivery Message). is_this r c.receiver) (λ c is. first (c.receiver == r) (c.message.buffer == b) is) copies in
      let as_receivers = count-map (λ (c : Delivery Message). c.receiver) (is_this r) copies in
      let same : count_by (is_this r) (map (λ (c : Delivery Message). c.receiver) copies) ≡ count_by (is_this r) receivers = ap (count_by (is_this r)) to in
      let most = once r receivers ascends in
      omega arith
    where
      first : (k j : Bool) → (k && j) ≡ true → k ≡ true
      first true j is = refl
      first false j is = absurd (cc is)

  -- there is one where the buffer leads there, and else none
  by_lead : (lead : Bool) (copies : List (Delivery Message)) → count_by note copies ≤ 1 → (lead ≡ false → All (λ c. note c ≡ false) copies) → count_by note copies ≤ cond lead 1 0
  by_lead true copies few none = few
  by_lead false copies few none = let nothing = count-none note copies (none refl) in omega arith

  no_note : (k j : Bool) (receiver buffer : ℕ) → (receiver == r) ≡ k → (buffer == b) ≡ j → (k ≡ true → j ≡ true → ⊥) → (receiver == r && buffer == b) ≡ false
  no_note true true receiver buffer is also apart = absurd (apart refl refl)
  no_note true false receiver buffer is also apart = ap (λ (x : Bool). x && (buffer == b)) is ∙ also
  no_note false j receiver buffer is also apart = ap (λ (x : Bool). x && (buffer == b)) is

  is_buffer_of : (o : Option ℕ) → o ≡ Some b → is_buffer b o ≡ true
  is_buffer_of o is = ap (is_buffer b) is ∙ eq-eqb b b refl

  module _ (v : LocalView) (other latency : ℕ) (fields : List Value) (s : Sending) where
    adds_few : (ordered : Bool) (p : BufferPlace) → SendAdds p ordered v.actor v.ctl.mail other latency fields v.now s → count_by note s.copies ≤ cond (leads_to v.actor other (Some p) slot) 1 0
    adds_few ordered place.Local adds =
        let added = adds.0 in
        by_lead (leads_to v.actor other (Some place.Local) slot) s.copies
        (at_most_one s.copies (v.actor.me ∷ []) added.to (receivers_alone v.actor.me))
        (λ none k d lt.
        let c = get_or s.copies k d in
        let each = added.each k d lt in
        no_note (c.receiver == r) (c.message.buffer == b) c.receiver c.message.buffer refl refl
        (λ to at.
        let receiver : r ≡ v.actor.me = sym (eqb-true c.receiver r to) ∙ own_receiver s.copies added.to k d lt in
        let buffer : b ≡ other = sym (eqb-true c.message.buffer b at) ∙ each.buffer in
        cc (sym none ∙ and_from (r == v.actor.me) (b == other) (eq-eqb r v.actor.me receiver) (eq-eqb b other buffer))))
      where
        receivers_alone : (me : ℕ) → Ascend (me ∷ [])
        receivers_alone me i j d lt within = absurd (omega arith)

        own_receiver : (copies : List (Delivery Message)) → map (λ (c : Delivery Message). c.receiver) copies ≡ v.actor.me ∷ [] → (k : ℕ) (d : Delivery Message) → k < length copies → (get_or copies k d).receiver ≡ v.actor.me
        own_receiver copies to =
            from_map (λ (x : ℕ). x ≡ v.actor.me) (λ (c : Delivery Message). c.receiver) copies
            (subst (All (λ (x : ℕ). x ≡ v.actor.me)) (sym to) (All-cons (λ (x : ℕ). x ≡ v.actor.me) v.actor.me [] refl (All-nil (λ (x : ℕ). x ≡ v.actor.me))))
    adds_few ordered (place.To network destination) adds =
        let added = adds.0 in
        by_lead (leads_to v.actor other (Some (place.To network destination)) slot) s.copies
        (at_most_one s.copies (receivers_of destination fields) added.to (receivers_ascend destination fields))
        (λ none k d lt.
        let c = get_or s.copies k d in
        let each = added.each k d lt in
        no_note (c.receiver == r) (c.message.buffer == b) c.receiver c.message.buffer refl refl
        (λ to at.
        let there : receiving_buffer v.actor.routes r network ≡ Some b =
        ap (λ (x : ℕ). receiving_buffer v.actor.routes x network) (sym (eqb-true c.receiver r to)) ∙ each.buffer ∙ ap Some (eqb-true c.message.buffer b at) in
        cc (sym none ∙ is_buffer_of (receiving_buffer v.actor.routes r network) there)))
    adds_few ordered (place.From network) adds =
        let added = adds.0 in
        let none : s.copies ≡ [] = empty s.copies added.to in
        subst (λ (cs : List (Delivery Message)). count_by note cs ≤ 0) (sym none) (omega arith)
      where
        empty : (copies : List (Delivery Message)) → map (λ (c : Delivery Message). c.receiver) copies ≡ [] → copies ≡ []
        empty [] is = refl
        empty (c ∷ copies) is = absurd (cc is)

    sending_few : (o : Option BufferSetup) → slice_get v.machine.buffers other ≡ o → (written : ℤ) → nat_abs written ≡ latency → send v.machine v.actor v.ctl.mail other written fields v.now ≡ Ok s
        → count_by note s.copies ≤ cond (leads_to v.actor other (buffer_place v.machine other) slot) 1 0
    sending_few (Some on) there written same sent =
        subst (λ (o : Option BufferSetup). count_by note s.copies ≤ cond (leads_to v.actor other (option_map (λ (x : BufferSetup). x.place) o) slot) 1 0) (sym there)
        (adds_few on.ordered on.place
        (subst (λ (l : ℕ). SendAdds on.place on.ordered v.actor v.ctl.mail other l fields v.now s) same (send_adds v.machine v.actor v.ctl.mail other written fields v.now on s there sent)))
    sending_few None there written same sent = none (is_latency written) (rw there at sent)
      where
        none : (k : Bool) → cond k (Ok (no_copies v.ctl.mail)) (Err Latency) ≡ Ok s → count_by note s.copies ≤ cond (leads_to v.actor other (buffer_place v.machine other) slot) 1 0
        none true is =
            let nothing : s.copies ≡ [] = ap (λ (x : Result Sending Fault). copies_or x) (sym is) in
            subst (λ (cs : List (Delivery Message)). count_by note cs ≤ cond (leads_to v.actor other (buffer_place v.machine other) slot) 1 0) (sym nothing) (omega arith)
        none false is = absurd (cc is)

  -- what is known after an act that sends so many there at most
  abbrev Few : LocalView → ℕ → LocalView → Type 0
  Few v n w = sent_here w ≤ sent_here v + n

  abbrev After : LocalView → ℕ → Result LocalView Fault → Type 0
  After v n (Ok w) = Few v n w
  After v n (Err f) = Unit {0}

  after_changes : {A : Type 0} (v : LocalView) (n : ℕ) (x : A) (want : Result LocalView Fault) → After v n want → HoldsAfter (Few v n) (changes x want)
  after_changes v n x (Ok w) few = few
  after_changes v n x (Err f) few = tt

  itself : (v : LocalView) → Few v 0 v
  itself v = omega arith

  after_reads : {A : Type 0} (v : LocalView) (want : Result A Fault) → HoldsAfter (Few v 0) (reads v want)
  after_reads v (Ok x) = itself v
  after_reads v (Err f) = tt

  module _ (v : LocalView) where
    enqueue_few : (other : ℕ) (latency : ℤ) (fields : List Value) → After v (sends_here v (Send other latency fields)) (enqueue v other latency fields)
    enqueue_few other latency fields = go (send v.machine v.actor v.ctl.mail other latency fields v.now) refl
      where
        go : (want : Result Sending Fault) → send v.machine v.actor v.ctl.mail other latency fields v.now ≡ want → After v (sends_here v (Send other latency fields)) (after_sending v want)
        go (Err e) sent = tt
        go (Ok s) sent =
            let few = sending_few v other (nat_abs latency) fields s (slice_get v.machine.buffers other) refl latency refl sent in
            let all = count-append (is_note_to r b) v.acts.sent (map sent_of s.copies) in
            let new = count-map sent_of (is_note_to r b) s.copies in
            omega arith

    after_table : (table : ℕ) (want : Result Table Fault) → After v 0 (after_change v table want)
    after_table table (Ok t) = itself v
    after_table table (Err e) = tt

    table_few : (table : ℕ) (change : Table → Result Table Fault) → After v 0 (changed_table v table change)
    table_few table change = go (table_at v table)
      where
        go : (o : Option Table) → After v 0 (change_if_there v table change o)
        go None = itself v
        go (Some t) = after_table table (change t)

    called_few : (call : Requests → Result Requests BackFault) (requests : Option Requests) → After v 0 (called_back v call requests)
    called_few call None = tt
    called_few call (Some q) = go (call q)
      where
        go : (o : Result Requests BackFault) → After v 0 (after_callback v o)
        go (Ok after) = itself v
        go (Err fault) = tt

    front_few : (told : MsgNo → Acts) → ((n : MsgNo) → (told n).sent ≡ v.acts.sent) → (change : Message → Mail) (o : Option Message) → After v 0 (after_front v told (at_front change o))
    front_few told same change None = tt
    front_few told same change (Some m) = let sent : copies_sent (told m.number).sent r b ≡ copies_sent v.acts.sent r b = ap (λ ns. copies_sent ns r b) (same m.number) in omega arith

    recycle_few : (buffer : ℕ) (latency : ℤ) → After v 0 (recycle v buffer latency)
    recycle_few buffer latency = go (λ (number : MsgNo). record v.acts { recycled = v.acts.recycled ++ number ∷ [] }) (λ n. refl) (is_latency latency)
      where
        go : (told : MsgNo → Acts) → ((n : MsgNo) → (told n).sent ≡ v.acts.sent) → (k : Bool)
            → After v 0 (after_front v told (cond k (at_front (mail_with_recycled v.ctl.mail (v.now + nat_abs latency)) (front_now v buffer)) (Err Latency)))
        go told same true = front_few told same (mail_with_recycled v.ctl.mail (v.now + nat_abs latency)) (front_now v buffer)
        go told same false = tt

  served_few : (a : Act) (v : LocalView) → HoldsAfter (Few v (sends_here v a)) (does_served a v)
  served_few Now v = itself v
  served_few Me v = itself v
  served_few (Get ref field) v = after_reads v (get v ref field)
  served_few (Set ref field value) v = after_changes v 0 tt (set v ref field value) (table_few v ref.table (λ t. table_with_field t ref.line field value (fields_in t ref.line)))
  served_few (Lookup table line) v = itself v
  served_few (Avail table line) v = itself v
  served_few (Probe table line) v = after_reads v (probe v table line)
  served_few (Allocate table line) v = after_changes v 0 (reference_to table line) (allocate v table line) (table_few v table (with_line (initial_fields v.machine table) line))
  served_few (Deallocate table line) v = after_changes v 0 tt (deallocate v table line) (table_few v table (without_line_in line))
  served_few (Touch table line) v = after_changes v 0 tt (touch v table line) (table_few v table (used_line line))
  served_few (Free table) v = itself v
  served_few (Ready buffer) v = itself v
  served_few (Front buffer) v = after_reads v (required_front v buffer)
  served_few (Pop buffer) v =
      after_changes v 0 tt (pop v buffer)
      (front_few v (acts_after_dequeue v.actor buffer v.now v.acts) (λ n. refl) (λ (m : Message). mail_after_dequeue v.actor buffer v.now m.number (mail_without v.ctl.mail m)) (front_now v buffer))
  served_few (Stall buffer line) v = after_changes v 0 tt (stall v buffer line) (front_few v _ (λ n. refl) (mail_with_waiting v.ctl.mail line) (front_now v buffer))
  served_few (Wake line) v = itself v
  served_few WakeAll v = itself v
  served_few (Recycle buffer latency) v = after_changes v 0 tt (recycle v buffer latency) (recycle_few v buffer latency)
  served_few (Send other latency fields) v = after_changes v (sends_here v (Send other latency fields)) tt (enqueue v other latency fields) (enqueue_few v other latency fields)
  served_few (Slots buffer) v = itself v
  served_few (ReadBack line block) v = after_changes v 0 tt (read_back v line block) (called_few v (λ q. callback.read_back q line block) v.ctl.sequencer)
  served_few (WriteBack line block) v = after_changes v 0 (block_after_write v line block) (write_back v line block) (called_few v (λ q. callback.write_back q line block) v.ctl.sequencer)
  served_few (State line) v = itself v
  served_few (SetState line new) v = itself v
  served_few Again v = itself v

  pub does_few : (a : Act) (v : LocalView) → HoldsAfter (λ w. sent_here w ≤ sent_here v + sends_here v a) (does a v)
  unfolding does
  does_few a v = cond_both (serves v.machine a) (does_served a v) (Err Reference) (HoldsAfter (Few v (sends_here v a))) (λ _. served_few a v) (λ _. tt)
