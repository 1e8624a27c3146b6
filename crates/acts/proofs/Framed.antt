-- What comes later is nothing to each act, and so to each body.
use Rattle.std.proofs.Common.{◌≡◌, ◌<◌, ◌+◌, ◌∷◌, ℕ, Bool, true, false, cond, List, [], map, Option, Result, Ok, Err, All, refl, sym, subst, ap, ◌∙◌, arith, is_some, length}
use Rattle.std.specs.List.{AllPairs}
use Rattle.std.specs.Prelude.{count_by}
use Rattle.std.proofs.lemmas.List.Elements.{All-cons, All-head, All-map, All-nil, All-tail, All-weaker}
use Rattle.std.proofs.lemmas.List.Sums.{sum_by-cons}
use Rattle.ruby_value.proofs.Ordered.{All-insert, AllPairs-head, AllPairs-tail}
use Rattle.std.specs.Option.{ok_or}
use Rattle.ruby_value.specs.declared.fault.Fault.{Fault}
use Rattle.ruby_value.specs.declared.fault.Fault.TheVariants.{Front as NoFront}
use Rattle.ruby_value.specs.declared.message.Message.{Message}
use Rattle.ruby_value.specs.declared.message.MsgNo.{MsgNo}
use Rattle.ruby_value.specs.Prelude.{number_before, same_number, with_mark, numbers_from}
use Rattle.ruby_value.specs.declared.message.Sent.{Sent}
use Rattle.ctl_face.specs.declared.parcel.Credit.{Credit}
use Rattle.ctl_face.specs.Prelude.{with_credit, allocate, with_line, probe, block_after_write, read_back, write_back, Ctl, InboxMessage, deallocate, without_line_in, enqueue, fields_in, IsLawful, NumbersAscend, get, Actor, LocalView, SameScan, reference_to, incoming_message, initial_fields, pop, required_front, recycle, set, table_with_field, stall, touch, used_line, is_under}
use Rattle.ctl_face.specs.Inbox.{with_message}
use Rattle.ctl_face.proofs.Inboxes.{ascend-with}
use Rattle.acts.specs.Prelude.{Act, Now, Me, Get, Set, Lookup, Avail, Probe, Allocate, Deallocate, Touch, Free, Ready, Front, Pop, Stall, Wake, WakeAll, Recycle, Send, Slots, ReadBack, WriteBack, State, SetState, Again, Acting, run, Agrees, HoldsAfter, Done, changes, does_served, reads, serves, Added, AreNew, IsNew, after_adding, with_added}
use Rattle.acts.proofs.Laws.{agrees_where_served, all_agrees}
use Rattle.acts.proofs.Frames.{Passes, after_done, again_moved, changes_moved, enqueue_moved, front_moved, moved, pop_moved, read_moved, reads_moved, recycle_moved, slots_moved, stall_moved, table_moved, wake_moved, write_moved}
use Rattle.acts.proofs.Later.{credit_passes, mark_passes, message_passes, not_same, same_is_not}
use Rattle.acts.proofs.Lawful.{lawful_act}
use Rattle.acts.proofs.Mail.{all_from_map, all_of_sender}
use Rattle.acts.proofs.Scans.{DoneEffect, act_effect}

abbrev needed : Option Message → Result Message Fault
needed o = ok_or o NoFront

module _ (f : List InboxMessage → List InboxMessage) (g : List ℕ → List ℕ) (h : List Credit → List Credit) (v : LocalView) (passes : Passes v.actor.me v.now f g h v.ctl.mail.inbox) where
  act_moved : (a : Act) → does_served a (moved f g h v) ≡ after_done (moved f g h) (does_served a v)
  act_moved Now = refl
  act_moved Me = refl
  act_moved (Get r field) = reads_moved (moved f g h) v (get v r field)
  act_moved (Set r field value) =
      changes_moved (moved f g h) v tt (set v r field value) (set (moved f g h v) r field value) (table_moved f g h v r.table (λ t. table_with_field t r.line field value (fields_in t r.line)))
  act_moved (Lookup table line) = refl
  act_moved (Avail table line) = refl
  act_moved (Probe table line) = reads_moved (moved f g h) v (probe v table line)
  act_moved (Allocate table line) =
      changes_moved (moved f g h) v (reference_to table line) (allocate v table line) (allocate (moved f g h v) table line) (table_moved f g h v table (with_line (initial_fields v.machine table) line))
  act_moved (Deallocate table line) = changes_moved (moved f g h) v tt (deallocate v table line) (deallocate (moved f g h v) table line) (table_moved f g h v table (without_line_in line))
  act_moved (Touch table line) = changes_moved (moved f g h) v tt (touch v table line) (touch (moved f g h v) table line) (table_moved f g h v table (used_line line))
  act_moved (Free table) = refl
  act_moved (Ready buffer) = ap (λ (o : Option Message). reads (moved f g h v) (Ok (is_some o))) (front_moved f g h v passes buffer)
  act_moved (Front buffer) =
      ap (λ (o : Option Message). reads (moved f g h v) (needed o)) (front_moved f g h v passes buffer)
      ∙ reads_moved (moved f g h) v (required_front v buffer)
  act_moved (Pop buffer) = changes_moved (moved f g h) v tt (pop v buffer) (pop (moved f g h v) buffer) (pop_moved f g h v passes buffer)
  act_moved (Stall buffer line) = changes_moved (moved f g h) v tt (stall v buffer line) (stall (moved f g h v) buffer line) (stall_moved f g h v passes buffer line)
  act_moved (Wake line) = ap (λ (w : LocalView). changes tt (Ok w)) (wake_moved f g h v passes (is_under line) refl)
  act_moved WakeAll = ap (λ (w : LocalView). changes tt (Ok w)) (wake_moved f g h v passes is_some refl)
  act_moved (Recycle buffer latency) = changes_moved (moved f g h) v tt (recycle v buffer latency) (recycle (moved f g h v) buffer latency) (recycle_moved f g h v passes buffer latency)
  act_moved (Send buffer latency fields) = changes_moved (moved f g h) v tt (enqueue v buffer latency fields) (enqueue (moved f g h v) buffer latency fields) (enqueue_moved f g h v passes buffer latency fields)
  act_moved (Slots buffer) = ap (λ (o : Option ℕ). reads (moved f g h v) (Ok o)) (slots_moved f g h v passes buffer)
  act_moved (ReadBack line block) = changes_moved (moved f g h) v tt (read_back v line block) (read_back (moved f g h v) line block) (read_moved f g h v line block)
  act_moved (WriteBack line block) =
      changes_moved (moved f g h) v (block_after_write v line block) (write_back v line block) (write_back (moved f g h v) line block) (write_moved f g h v line block)
  act_moved (State line) = refl
  act_moved (SetState line new) = refl
  act_moved Again = ap (λ (w : LocalView). changes tt (Ok w)) (again_moved f g h v passes)

-- one message, one credit, and one mark
abbrev with_later : Message → LocalView → LocalView
with_later m = moved (λ l. with_message l (incoming_message m)) (λ marks. marks) (λ credits. credits)

abbrev with_later_credit : Credit → LocalView → LocalView
with_later_credit k = moved (λ l. l) (λ marks. marks) (λ credits. with_credit credits k)

abbrev with_later_mark : ℕ → LocalView → LocalView
with_later_mark cycle = moved (λ l. l) (λ marks. with_mark marks cycle) (λ credits. credits)

abbrev more_of : List Message → List Credit → List ℕ → Added
more_of messages credits marks = record { messages = messages; credits = credits; marks = marks }

module _ {A : Type 0} where
  after_one : (m : Message) (ms : List Message) (ks : List Credit) (cs : List ℕ) (r : Result (Done A) Fault) → after_adding (more_of ms ks cs) (after_done (with_later m) r) ≡ after_adding (more_of (m ∷ ms) ks cs) r
  after_one m ms ks cs (Ok d) = refl
  after_one m ms ks cs (Err e) = refl

  after_credit : (k : Credit) (ks : List Credit) (cs : List ℕ) (r : Result (Done A) Fault) → after_adding (more_of [] ks cs) (after_done (with_later_credit k) r) ≡ after_adding (more_of [] (k ∷ ks) cs) r
  after_credit k ks cs (Ok d) = refl
  after_credit k ks cs (Err e) = refl

  after_mark : (c : ℕ) (cs : List ℕ) (r : Result (Done A) Fault) → after_adding (more_of [] [] cs) (after_done (with_later_mark c) r) ≡ after_adding (more_of [] [] (c ∷ cs)) r
  after_mark c cs (Ok d) = refl
  after_mark c cs (Err e) = refl

  after_none : (r : Result (Done A) Fault) → r ≡ after_adding (more_of [] [] []) r
  after_none (Ok d) = refl
  after_none (Err e) = refl

marks_added : (cs : List ℕ) (a : Act) (v : LocalView) → does_served a (with_added (more_of [] [] cs) v) ≡ after_adding (more_of [] [] cs) (does_served a v)
marks_added [] a v = after_none (does_served a v)
marks_added (c ∷ cs) a v =
    marks_added cs a (with_later_mark c v)
    ∙ ap (after_adding (more_of [] [] cs)) (act_moved (λ l. l) (λ marks. with_mark marks c) (λ credits. credits) v (mark_passes v.actor.me v.now v.ctl.mail.inbox c) a)
    ∙ after_mark c cs (does_served a v)

credits_added : (ks : List Credit) (cs : List ℕ) (a : Act) (v : LocalView) → All (λ (k : Credit). v.now < k.arrival) ks → does_served a (with_added (more_of [] ks cs) v) ≡ after_adding (more_of [] ks cs) (does_served a v)
credits_added [] cs a v later = marks_added cs a v
credits_added (k ∷ ks) cs a v later =
    credits_added ks cs a (with_later_credit k v) (All-tail (λ (c : Credit). v.now < c.arrival) k ks later)
    ∙ ap (after_adding (more_of [] ks cs)) (act_moved (λ l. l) (λ marks. marks) (λ credits. with_credit credits k) v (credit_passes v.actor.me v.now v.ctl.mail.inbox k (All-head (λ (c : Credit). v.now < c.arrival) k ks later)) a)
    ∙ after_credit k ks cs (does_served a v)

still_new : (me now : ℕ) (inbox : List InboxMessage) (m n : Message) → ¬ (m.number ≡ n.number) → IsNew me now inbox n → IsNew me now (with_message inbox (incoming_message m)) n
still_new me now inbox m n differ new = record {
  later = new.later;
  other = new.other;
  unknown = All-insert (λ (o : InboxMessage). ¬ (o.message.number ≡ n.number)) (λ (o : InboxMessage). number_before o.message.number m.number) (λ (o : InboxMessage). number_before m.number o.message.number) (incoming_message m) inbox new.unknown differ;
}

all_still_new : (me now : ℕ) (inbox : List InboxMessage) (m : Message) (ms : List Message) → All (λ (n : Message). ¬ (m.number ≡ n.number)) ms → All (IsNew me now inbox) ms → All (IsNew me now (with_message inbox (incoming_message m))) ms
all_still_new me now inbox m ms differ all = λ k d within. still_new me now inbox m _ (differ k d within) (all k d within)

abbrev Differ : Message → Message → Type 0
Differ a b = ¬ (a.number ≡ b.number)

all_added : (ms : List Message) (ks : List Credit) (cs : List ℕ) (a : Act) (v : LocalView) → NumbersAscend v.ctl.mail.inbox → All (IsNew v.actor.me v.now v.ctl.mail.inbox) ms → AllPairs Differ ms → All (λ (k : Credit). v.now < k.arrival) ks
    → does_served a (with_added (more_of ms ks cs) v) ≡ after_adding (more_of ms ks cs) (does_served a v)
all_added [] ks cs a v ascends all differ later = credits_added ks cs a v later
all_added (m ∷ ms) ks cs a v ascends all differ later =
    let inbox = v.ctl.mail.inbox in
    let new = All-head (IsNew v.actor.me v.now inbox) m ms all in
    all_added ms ks cs a (with_later m v) (ascend-with inbox (incoming_message m) ascends)
    (all_still_new v.actor.me v.now inbox m ms (AllPairs-head Differ m ms differ) (All-tail (IsNew v.actor.me v.now inbox) m ms all)) (AllPairs-tail Differ m ms differ) later
    ∙ ap (after_adding (more_of ms ks cs)) (act_moved (λ l. with_message l (incoming_message m)) (λ marks. marks) (λ credits. credits) v (message_passes v.actor.me v.now inbox ascends m new) a)
    ∙ after_one m ms ks cs (does_served a v)

-- what a scan's inbox doesn't have as it begins, it doesn't get but from others
counted_none : (f : MsgNo → Bool) (xs : List MsgNo) → count_by f xs ≡ 0 → All (λ n. f n ≡ false) xs
counted_none f [] none = All-nil (λ n. f n ≡ false)
counted_none f (x ∷ xs) none = go (counted_none f xs) (f x) refl (sym (sum_by-cons (λ n. cond (f n) 1 0) x xs) ∙ none)
  where
    go : (count_by f xs ≡ 0 → All (λ n. f n ≡ false) xs) → (b : Bool) → f x ≡ b → cond b 1 0 + count_by f xs ≡ 0 → All (λ n. f n ≡ false) (x ∷ xs)
    go rest true is sum = absurd (omega arith)
    go rest false is sum = All-cons (λ n. f n ≡ false) x xs is (rest (omega arith))

none_counted : (f : MsgNo → Bool) (xs : List MsgNo) → All (λ n. f n ≡ false) xs → count_by f xs ≡ 0
none_counted f [] all = refl
none_counted f (x ∷ xs) all =
    let rest : count_by f xs ≡ 0 = none_counted f xs (All-tail (λ n. f n ≡ false) x xs all) in
    let same : cond (f x) 1 0 + count_by f xs ≡ 0 + count_by f xs = ap (λ (b : Bool). cond b 1 0 + count_by f xs) (All-head (λ n. f n ≡ false) x xs all) in
    sum_by-cons (λ n. cond (f n) 1 0) x xs ∙ same ∙ omega arith

new_now : (v : LocalView) → IsLawful v → (m : Message) → IsNew v.actor.me v.now v.start.mail.inbox m → IsNew v.actor.me v.now v.ctl.mail.inbox m
new_now v l m new =
    let f : MsgNo → Bool = λ n. same_number n m.number in
    let number : InboxMessage → MsgNo = λ o. o.message.number in
    let before : count_by f (map number v.start.mail.inbox) ≡ 0 =
    none_counted f (map number v.start.mail.inbox)
    (All-map (λ n. f n ≡ false) number v.start.mail.inbox
    (All-weaker (λ (o : InboxMessage). ¬ (o.message.number ≡ m.number)) (λ (o : InboxMessage). f (number o) ≡ false) (λ o differ. not_same o.message.number m.number differ) v.start.mail.inbox new.unknown)) in
    let sent : count_by f (map (λ (n : Sent). n.number) v.acts.sent) ≡ 0 =
    ap (count_by f) l.acts.0.numbers
    ∙ none_counted f (numbers_from v.actor.me v.start.mail.sent (length v.acts.sent))
    (All-weaker (λ (n : MsgNo). n.sender ≡ v.actor.me) (λ n. f n ≡ false) (λ n own. not_same n m.number (λ same. new.other (sym (ap (λ (k : MsgNo). k.sender) same) ∙ own)))
    (numbers_from v.actor.me v.start.mail.sent (length v.acts.sent)) (all_of_sender v.actor.me v.start.mail.sent (length v.acts.sent))) in
    let moves = l.acts.1 f in
    let after : count_by f (map number v.ctl.mail.inbox) ≡ 0 = omega arith in
    record {
      later = new.later;
      other = new.other;
      unknown = All-weaker (λ (o : InboxMessage). f (number o) ≡ false) (λ (o : InboxMessage). ¬ (o.message.number ≡ m.number)) (λ o is same. same_is_not o.message.number m.number is same) v.ctl.mail.inbox
          (all_from_map (λ n. f n ≡ false) number v.ctl.mail.inbox (counted_none f (map number v.ctl.mail.inbox) after));
    }

new_in : (me other_me now other_now : ℕ) (inbox other_inbox : List InboxMessage) → other_me ≡ me → other_now ≡ now → other_inbox ≡ inbox → (m : Message) → IsNew me now inbox m → IsNew other_me other_now other_inbox m
new_in me other_me now other_now inbox other_inbox same_me same_now same_inbox m new = rw (same_me, same_now, same_inbox) new

are_new : (v w : LocalView) (more : Added) → SameScan v w → AreNew v more → AreNew w more
are_new v w more scan new = record {
  each = λ k d within. new_in v.actor.me w.actor.me v.now w.now v.start.mail.inbox w.start.mail.inbox (ap (λ (a : Actor). a.me) scan.actor) scan.now (ap (λ (c : Ctl). c.mail.inbox) scan.start) _ (new.each k d within);
  credits_later = subst (λ (n : ℕ). All (λ (c : Credit). n < c.arrival) more.credits) (sym scan.now) new.credits_later;
  differ = new.differ;
}

module _ (more : Added) where
  -- the one local is the other with the addition
  pub record IsExtended (v w : LocalView) : Type 0 where
    pub lawful : IsLawful v
    pub is : w ≡ with_added more v
    pub new : AreNew v more

  agrees_extended : {A : Type 0} (v : LocalView) (r : Result (Done A) Fault) → AreNew v more → HoldsAfter IsLawful r → DoneEffect v r → Agrees IsExtended r (after_adding more r)
  agrees_extended v (Ok d) new lawful effect = (refl, record { lawful = lawful; is = refl; new = are_new v d.view more effect.scan new })
  agrees_extended v (Err e) new lawful valid = refl

  each_act : (a : Act) (v w : LocalView) → serves v.machine a ≡ true → IsExtended v w → Agrees IsExtended (does_served a v) (does_served a w)
  each_act a v w served e =
      let all : All (IsNew v.actor.me v.now v.ctl.mail.inbox) more.messages = λ k d within. new_now v e.lawful _ (e.new.each k d within) in
      let same : does_served a w ≡ after_adding more (does_served a v) =
      ap (does_served a) e.is ∙ all_added more.messages more.credits more.marks a v e.lawful.scan.fits.mail.inbox_ascends all e.new.differ e.new.credits_later in
      subst (Agrees IsExtended (does_served a v)) (sym same)
      (agrees_extended v (does_served a v) e.new (lawful_act a v served e.lawful) (act_effect a v))

  same_after : {A : Type 0} (r s : Result (Done A) Fault) → Agrees IsExtended r s → s ≡ after_adding more r
  same_after (Ok d) (Ok e) (same, extended) =
      ap (λ x. Ok (record { value = x; view = e.view })) (sym same) ∙ ap (λ (w : LocalView). Ok (record { value = d.value; view = w })) extended.is
  same_after (Ok d) (Err g) valid = absurd valid
  same_after (Err f) (Ok e) valid = absurd valid
  same_after (Err f) (Err g) same = ap (λ (x : Fault). Err x) (sym same)

  pub frame : {A : Type 0} (p : Acting A) (v : LocalView) → IsLawful v → AreNew v more → run p (with_added more v) ≡ after_adding more (run p v)
  frame p v lawful new =
      same_after (run p v) (run p (with_added more v))
      (all_agrees IsExtended (agrees_where_served IsExtended (λ u w e. ap (λ (x : LocalView). x.machine) e.is) each_act) p v (with_added more v)
      (record { lawful = lawful; is = refl; new = new }))
