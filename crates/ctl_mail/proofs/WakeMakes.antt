-- Messages that wait are woken in the mail as it is kept.
use Rattle.std.proofs.Common.{◌≡◌, ◌≢◌, ◌⊎◌, ◌↔◌, ◌==◌, ◌<◌, ◌≤◌, ◌+◌, ℕ, Bool, true, false, not, cond, is_some, Option, None, Some, List, [], ◌∷◌, refl, sym, subst, ap, ◌∙◌, inl, inr, ⊎_elim, length, All, Contains, filter, get_or, map, eq-eqb, arith}
use Rattle.std.proofs.lemmas.List.Elements.{Contains-get_or}
use Rattle.std.proofs.lemmas.List.Kept.{AllPairs-filter}
use Rattle.std.specs.declared.alloc.Global.{Global}
use Rattle.std.specs.declared.vec.Vec.{Vec}
use Rattle.ruby_value.specs.declared.message.Message.{Message}
use Rattle.ruby_value.specs.declared.message.MsgNo.{MsgNo}
use Rattle.ruby_value.proofs.Contained.{Contains-cons_here, Contains-cons_there}
use Rattle.ruby_value.specs.Prelude.{IsBefore, Roomy}
use Rattle.stall_map.specs.declared.stalled.Stalled.{Stalled}
use Rattle.stall_map.specs.Prelude.{Ascends, is_under, messages_under, without_line}
use Rattle.msg_buffer.specs.Prelude.{IsNew}
use Rattle.ctl_face.specs.Prelude.{InboxMessage, Mail, message_waiting_no_longer, woken_mail, incoming_message}
use Rattle.ctl_face.specs.Wake as face
use Rattle.ctl_face.proofs.Held.{from-filter, from-map, in-filter, nothing-there, to-map}
use Rattle.ctl_face.proofs.Inboxes.{ascend-map}
use Rattle.ctl_mail.specs.declared.store.MailStore.{MailStore}
use Rattle.ctl_mail.specs.Prelude.{Has, Holds, IsAt, inbox_of, IsMail, mail_of, Queues, queue_of, room_of}
use Rattle.ctl_mail.proofs.Backs.{Apart}
use Rattle.ctl_mail.proofs.Inboxes.{becomes, inbox-ascends, inbox-has}
use Rattle.ctl_mail.proofs.Rises.{filters-apart}
use Rattle.ctl_mail.proofs.WakeActs.{pairs-map}

pub before-apart : (a b : MsgNo) → IsBefore a b → a ≢ b
before-apart a b before same = itself b (subst (λ (n : MsgNo). IsBefore n b) same before)
  where
    itself : (n : MsgNo) → IsBefore n n → ⊥
    itself n is = grind (arith, is)

-- the messages under a line, each once
pub under-apart : (stalled : List Stalled) (line : ℕ) → Ascends stalled → Apart (messages_under stalled line)
under-apart stalled line ascends =
    pairs-map (λ (a b : Message). a.number ≢ b.number) (λ (s : Stalled). s.message) (filter (is_under line) stalled)
    (AllPairs-filter (λ (a b : Stalled). a.message.number ≢ b.message.number) (is_under line) stalled
    (λ i j d lt within. before-apart (get_or stalled i d).message.number (get_or stalled j d).message.number (ascends i j d lt within)))

length-map : {X Y : Type 0} (f : X → Y) (xs : List X) → length (map f xs) ≡ length xs
length-map f [] = refl
length-map f (x ∷ xs) = let so = length-map f xs in omega arith

-- those under a line and the others are no more than all
pub under-count : (stalled : List Stalled) (line : ℕ) → length (messages_under stalled line) + length (without_line stalled line) ≤ length stalled
under-count stalled line =
    let p : Stalled → Bool = is_under line in
    let q : Stalled → Bool = λ s. not (is_under line s) in
    let both : length (filter p stalled) + length (filter q stalled) ≤ length stalled = filters-apart p q (λ s under other. never (p s) under other) stalled in
    let same : length (messages_under stalled line) ≡ length (filter p stalled) = length-map (λ (s : Stalled). s.message) (filter p stalled) in
    omega arith
  where
    never : (b : Bool) → b ≡ true → not b ≡ true → ⊥
    never true is other = cc other
    never false is other = cc is

pub under-from : (stalled : List Stalled) (line : ℕ) (m : Message) → Contains (messages_under stalled line) m → (s : Stalled) × Contains stalled s × (is_under line s ≡ true) × (s.message ≡ m)
under-from stalled line m has =
    let so = from-map (λ (s : Stalled). s.message) (filter (is_under line) stalled) m has in
    let kept = from-filter (is_under line) stalled so.0 so.1 in
    (so.0, kept.0, kept.1, so.2)

pub under-to : (stalled : List Stalled) (line : ℕ) (s : Stalled) → Contains stalled s → is_under line s ≡ true → Contains (messages_under stalled line) s.message
under-to stalled line s has is = to-map (λ (z : Stalled). z.message) (filter (is_under line) stalled) s (in-filter (is_under line) stalled s is has)

module _ (queues : Queues) (stalled : List Stalled) (line : ℕ) (holds : Holds queues stalled) where
  -- a message under a line is none of a queue's
  pub new-in-home : All (λ (m : Message). IsNew (queue_of queues m.buffer) m.number) (messages_under stalled line)
  new-in-home k d within j e inside =
      let m = get_or (messages_under stalled line) k d in
      let y = get_or (queue_of queues m.buffer) j e in
      let so = under-from stalled line m (Contains-get_or (messages_under stalled line) k d within) in
      let y_in : Contains (queue_of queues m.buffer) y = Contains-get_or (queue_of queues m.buffer) j e inside in
      let own : y.buffer ≡ m.buffer = holds.own_buffer m.buffer y y_in in
      λ same.
      let waiting : InboxMessage = record { message = so.0.message; waiting = Some so.0.line } in
      let is : incoming_message y ≡ waiting =
      holds.one (incoming_message y) waiting (subst (λ (b : ℕ). Contains (queue_of queues b) y) (sym own) y_in) so.1
      (same ∙ ap (λ (z : Message). z.number) (sym so.3)) in
      let none : None ≡ Some so.0.line = ap (λ (z : InboxMessage). z.waiting) is in
      cc none

  -- and each has a place in its buffer
  pub room-at-home : ((buffer : ℕ) → buffer < length queues → length stalled + 0 ≤ room_of queues buffer)
      → All (λ (m : Message). length (messages_under stalled line) ≤ room_of queues m.buffer) (messages_under stalled line)
  room-at-home places k d within =
      let m = get_or (messages_under stalled line) k d in
      let so = under-from stalled line m (Contains-get_or (messages_under stalled line) k d within) in
      let home : m.buffer < length queues = subst (λ (z : Message). z.buffer < length queues) so.3 (holds.homes so.0 so.1) in
      let room : length stalled + 0 ≤ room_of queues m.buffer = places m.buffer home in
      let count : length (messages_under stalled line) + length (without_line stalled line) ≤ length stalled = under-count stalled line in
      omega arith

  abbrev test : InboxMessage → Bool
  test o = face.is_under line o.waiting

  abbrev change : InboxMessage → InboxMessage
  change o = cond (test o) (message_waiting_no_longer o) o

  keeps : (o : InboxMessage) (b : Bool) → (cond b (message_waiting_no_longer o) o).message.number ≡ o.message.number
  keeps o true = refl
  keeps o false = refl

  module _ (new : Queues) (has : (buffer : ℕ) (m : Message) → Contains (queue_of new buffer) m ↔ (Contains (queue_of queues buffer) m ⊎ (Contains (messages_under stalled line) m × (m.buffer ≡ buffer)))) (count : length new ≡ length queues) where
    abbrev target : List InboxMessage
    target = map change (inbox_of queues stalled)

    in-target : (o : InboxMessage) → Has queues stalled o → Contains target (change o)
    in-target o there = to-map change (inbox_of queues stalled) o ((inbox-has queues stalled holds o).1 there)

    -- one that waits under the line
    woken-in : (s : Stalled) → Contains stalled s → is_under line s ≡ true → Contains target (incoming_message s.message)
    woken-in s there is =
        let o : InboxMessage = record { message = s.message; waiting = Some s.line } in
        let eq : change o ≡ incoming_message s.message = ap (λ b. cond b (message_waiting_no_longer o) o) is in
        subst (Contains target) eq (in-target o there)

    -- one that waits under another
    other-in : (s : Stalled) → Contains stalled s → is_under line s ≡ false → Contains target (record { message = s.message; waiting = Some s.line })
    other-in s there is =
        let o : InboxMessage = record { message = s.message; waiting = Some s.line } in
        let eq : change o ≡ o = ap (λ b. cond b (message_waiting_no_longer o) o) is in
        subst (Contains target) eq (in-target o there)

    turned : (b : Bool) → not b ≡ true → b ≡ false
    turned true is = absurd (cc is)
    turned false is = refl

    to-by : (m : Message) (waiting : Option ℕ) → IsAt new (without_line stalled line) m waiting → Contains target (record { message = m; waiting = waiting })
    to-by m None there =
        ⊎_elim
        (λ queued. in-target (incoming_message m) queued)
        (λ so.
        let under = under-from stalled line m so.0 in
        subst (λ (z : Message). Contains target (incoming_message z)) under.3 (woken-in under.0 under.1 under.2))
        ((has m.buffer m).0 there)
    to-by m (Some l) there =
        let s : Stalled = record { line = l; message = m } in
        let so = from-filter (λ (z : Stalled). not (is_under line z)) stalled s there in
        other-in s so.0 (turned (is_under line s) so.1)

    -- what one of the inbox becomes is there
    from-some : (m : Message) (l : ℕ) (b : Bool) → (l == line) ≡ b → Contains stalled (record { line = l; message = m })
        → Has new (without_line stalled line) (cond b (incoming_message m) (record { message = m; waiting = Some l }))
    from-some m l true is there = (has m.buffer m).1 (inr (under-to stalled line (record { line = l; message = m }) there is, refl))
    from-some m l false is there =
        in-filter (λ (z : Stalled). not (is_under line z)) stalled (record { line = l; message = m }) (ap not is) there

    from-by : (m : Message) (waiting : Option ℕ) → IsAt queues stalled m waiting → Has new (without_line stalled line) (change (record { message = m; waiting = waiting }))
    from-by m None there = (has m.buffer m).1 (inl there)
    from-by m (Some l) there = from-some m l (l == line) refl there

    pub woken-held : Holds new (without_line stalled line) × (inbox_of new (without_line stalled line) ≡ target)
    woken-held =
        becomes new (without_line stalled line) target
        (ascend-map change (λ o. keeps o (test o)) (inbox_of queues stalled) (inbox-ascends queues stalled))
        (λ buffer m there. ⊎_elim (λ queued. holds.own_buffer buffer m queued) (λ so. so.1) ((has buffer m).0 there))
        (λ s there. subst (λ n. s.message.buffer < n) (sym count) (holds.homes s (from-filter (λ (z : Stalled). not (is_under line z)) stalled s there).0))
        (λ o. (
          λ there. to-by o.message o.waiting there,
          λ there.
              let so = from-map change (inbox_of queues stalled) o there in
              subst (Has new (without_line stalled line)) so.2 (from-by so.0.message so.0.waiting ((inbox-has queues stalled holds so.0).0 so.1)),
        ))

pub made-wake : (store : MailStore) (buffers : Vec (Roomy (List Message)) Global) (stalls : Roomy (List Stalled)) (line : ℕ) → IsMail store
    → ((buffer : ℕ) (m : Message) → Contains (queue_of buffers.items buffer) m ↔ (Contains (queue_of store.buffers.items buffer) m ⊎ (Contains (messages_under store.stalls.kept line) m × (m.buffer ≡ buffer))))
    → length buffers.items ≡ length store.buffers.items → stalls.kept ≡ without_line store.stalls.kept line
    → (mail_of (record store { buffers = buffers; stalls = stalls }) ≡ woken_mail (mail_of store) (λ (o : InboxMessage). face.is_under line o.waiting))
    × IsMail (record store { buffers = buffers; stalls = stalls })
made-wake store buffers stalls line is has count others =
    let so = woken-held store.buffers.items store.stalls.kept line is.holds buffers.items has count in (
      ap (λ xs. record (mail_of store) { inbox = inbox_of buffers.items xs }) others ∙ ap (λ xs. record (mail_of store) { inbox = xs }) so.1,
      record { holds = subst (Holds buffers.items) (sym others) so.0; marks_ascend = is.marks_ascend; credits_ascend = is.credits_ascend },
    )

-- waking one line after another
abbrev woken_if : (Option ℕ → Bool) → InboxMessage → InboxMessage
woken_if test o = cond (test o.waiting) (message_waiting_no_longer o) o

abbrev any : Option ℕ → Bool
any w = is_some w

any-is : (m : Message) (w : Option ℕ) → woken_if any (record { message = m; waiting = w }) ≡ record { message = m; waiting = None }
any-is m None = refl
any-is m (Some l) = refl

any-after : (o : InboxMessage) (b : Bool) → woken_if any (cond b (message_waiting_no_longer o) o) ≡ woken_if any o
any-after o true = sym (any-is o.message o.waiting)
any-after o false = refl

twice : (line : ℕ) (xs : List InboxMessage) → map (woken_if any) (map (woken_if (face.is_under line)) xs) ≡ map (woken_if any) xs
twice line [] = refl
twice line (x ∷ xs) =
    let first : woken_if any (woken_if (face.is_under line) x) ≡ woken_if any x = any-after x (face.is_under line x.waiting) in
    λ i. first i ∷ twice line xs i

pub all-after-line : (mail : Mail) (line : ℕ) → woken_mail (woken_mail mail (λ (o : InboxMessage). face.is_under line o.waiting)) (λ (o : InboxMessage). is_some o.waiting) ≡ woken_mail mail (λ (o : InboxMessage). is_some o.waiting)
all-after-line mail line = ap (λ xs. record mail { inbox = xs }) (twice line mail.inbox)

-- where none waits, waking changes nothing
pub none-waits : (store : MailStore) → IsMail store → store.stalls.kept ≡ [] → woken_mail (mail_of store) (λ (o : InboxMessage). is_some o.waiting) ≡ mail_of store
none-waits store is none = ap (λ xs. record (mail_of store) { inbox = xs }) (same (inbox_of store.buffers.items store.stalls.kept) (λ o has. stays o.message o.waiting ((inbox-has store.buffers.items store.stalls.kept is.holds o).0 has)))
  where
    stays : (m : Message) (w : Option ℕ) → IsAt store.buffers.items store.stalls.kept m w → w ≡ None
    stays m None has = refl
    stays m (Some l) has = absurd (nothing-there (record { line = l; message = m }) (subst (λ (xs : List Stalled). Contains xs (record { line = l; message = m })) none has))

    same : (xs : List InboxMessage) → ((o : InboxMessage) → Contains xs o → o.waiting ≡ None) → map (λ (o : InboxMessage). cond (is_some o.waiting) (message_waiting_no_longer o) o) xs ≡ xs
    same [] all = refl
    same (x ∷ xs) all =
        let here : x.waiting ≡ None = all x (Contains-cons_here x xs) in
        let first : cond (is_some x.waiting) (message_waiting_no_longer x) x ≡ x = ap (λ (w : Option ℕ). cond (is_some w) (message_waiting_no_longer x) x) here in
        λ i. first i ∷ same xs (λ o has. all o (Contains-cons_there x o xs has)) i

-- a line with messages has fewer of them behind it
pub fewer : (stalled : List Stalled) (line : ℕ) (m : Message) → Contains stalled (record { line = line; message = m }) → length (without_line stalled line) < length stalled
fewer stalled line m has =
    let in_under : Contains (messages_under stalled line) m = under-to stalled line (record { line = line; message = m }) has (eq-eqb line line refl) in
    let some : 0 < length (messages_under stalled line) = positive (messages_under stalled line) m in_under in
    let count : length (messages_under stalled line) + length (without_line stalled line) ≤ length stalled = under-count stalled line in
    omega arith
  where
    positive : (xs : List Message) (x : Message) → Contains xs x → 0 < length xs
    positive [] x has = absurd (nothing-there x has)
    positive (y ∷ ys) x has = omega arith
