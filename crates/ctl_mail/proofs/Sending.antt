-- The copies that a scan keeps are those of the definition, one after another.
use Rattle.std.proofs.Common.{◌≡◌, ◌<◌, ◌≤◌, ◌+◌, ◌*◌, ◌^◌, ◌++◌, ℕ, ℤ, nat_abs, Err, slice_get, Bool, true, false, cond, max, eqb, Option, None, Some, List, [], ◌∷◌, refl, sym, subst, ap, ◌∙◌, ⊎_elim, Contains, get_or, map, append_assoc, is_some, arith}
use Rattle.std.specs.FinMap as finite
use Rattle.std.specs.List.{All, fold, list_any}
use Rattle.std.proofs.lemmas.List.Elements.{All-cons, All-contains, All-head, All-push, All-tail, Contains-get_or, filter-append}
use Rattle.std.proofs.lemmas.List.{append-nil, map-append}
use Rattle.ruby_value.specs.declared.message.Message.{Message}
use Rattle.ruby_value.specs.declared.message.MsgNo.{MsgNo}
use Rattle.ruby_value.specs.declared.fault.Fault.TheVariants.{Latency}
use Rattle.ruby_value.specs.declared.setup.BufferPlace.{BufferPlace}
use Rattle.ruby_value.specs.declared.setup.BufferSetup.{BufferSetup}
use Rattle.ruby_value.specs.declared.setup.MachineSetup.{MachineSetup}
use Rattle.ruby_value.specs.declared.value.Value.{Value}
use Rattle.ctl_face.specs.declared.parcel.Lent.{Lent}
use Rattle.ctl_face.specs.declared.parcel.Parcel.{Parcel}
use Rattle.ctl_face.specs.declared.routes.Routes.{Routes}
use Rattle.ctl_face.specs.Prelude.{for_others, is_latency, is_lent_of, one_more, sent_of, InboxMessage, Mail, parcels_for_others, with_last, with_lent, with_message_parcel, Actor, incoming_message, mail_with_delivery, Sending, has_jitter, no_copies, send, sending_from, sending_on, with_network_copy}
use Rattle.ruby_value.specs.declared.message.Delivery.{Delivery}
use Rattle.ctl_face.specs.Inbox.{with_message}
use Rattle.ctl_face.proofs.Inboxes.{ascend-with}
use Rattle.ctl_face.proofs.OneKey.{with_message-contains}
use Rattle.ctl_mail.specs.declared.act.MailAct.{MailAct}
use Rattle.ctl_mail.specs.declared.act.MailAct.TheVariants.{LocalLast, NetworkLast}
use Rattle.stall_map.specs.declared.stalled.Stalled.{Stalled}
use Rattle.ctl_mail.specs.declared.changes.MailChanges.{MailChanges}
use Rattle.ctl_mail.specs.declared.store.MailStore.{MailStore}
use Rattle.ctl_mail.specs.Prelude.{IsNewIn, mail_of, MailView, Queues, AreNext, MaySend, OwnAreBelow, copies_to_all, view_with_copies, view_with_network_copy, HasSpace, copy_at, told_with_act, told_with_copy, AreOf, CountsFit, LentFit, Reflects, Told, after_act, changed_mail, changed_view}
use Rattle.ctl_mail.proofs.Acts.{reflects-as}
use Rattle.ctl_mail.proofs.SentActs.{after-both, after-copy, after-one, copied_mail, is_sized, fits-act, fits-copy, late-contains, still-contains}
use Rattle.pcg_words.specs.Prelude.{Position}

pub after-act : (mail : Mail) (act : MailAct) (t : Told) → changed_mail mail (told_with_act act t) ≡ after_act t.cycle (changed_mail mail t) act
after-act mail act t = after-both t.cycle mail t.log (act ∷ []) ∙ after-one t.cycle (changed_mail mail t) act

pub copy-as : (me count count' receiver buffer buffer' arrival arrival' : ℕ) (fields : List Value) → count ≡ count' → buffer ≡ buffer' → arrival ≡ arrival' → copy_at me count receiver buffer arrival fields ≡ copy_at me count' receiver buffer' arrival' fields
copy-as me count count' receiver buffer buffer' arrival arrival' fields p q r = λ i. copy_at me (p i) receiver (q i) (r i) fields

-- one copy, as a change of the view
module _ (mail : Mail) (me network : ℕ) (routes : Routes) (old : Told) where
  abbrev before : Mail
  before = changed_mail mail old

  abbrev pub one_mail : (mine sized drawn ordered : Bool) → ℕ → Message → Mail
  one_mail mine sized drawn ordered receiver m =
      let after : Mail = record (mail_with_delivery mine before m) {
        sent = before.sent + 1;
        copies = before.copies + 1;
        lent = cond sized (with_lent before.lent receiver m.buffer) before.lent;
      } in
      record after {
        drawn = cond drawn (after.drawn + 1) after.drawn;
        network_last = cond ordered (with_last after.network_last network receiver m.arrival) after.network_last;
      }

  abbrev pub with_one : (drawn ordered : Bool) → Delivery Message → MailView
  with_one drawn ordered c = record {
    mail = one_mail (eqb c.receiver me) (is_sized routes c) drawn ordered c.receiver c.message;
    acts = record old.acts { sent = old.acts.sent ++ sent_of c ∷ []; posted = old.acts.posted ++ parcels_for_others me (c ∷ []) };
  }

  one-unordered : (mine sized drawn : Bool) (receiver : ℕ) (m : Message) → copied_mail mine sized drawn before receiver m ≡ one_mail mine sized drawn false receiver m
  one-unordered true sized drawn receiver m = refl
  one-unordered false sized drawn receiver m = refl

  one-ordered : (mine sized drawn : Bool) (receiver : ℕ) (m : Message)
      → record (copied_mail mine sized drawn before receiver m) { network_last = with_last (copied_mail mine sized drawn before receiver m).network_last network receiver m.arrival }
      ≡ one_mail mine sized drawn true receiver m
  one-ordered true sized drawn receiver m = refl
  one-ordered false sized drawn receiver m = refl

  pub view-unordered : (drawn : Bool) (c : Delivery Message) → changed_view mail (told_with_copy me routes drawn c old) ≡ with_one drawn false c
  view-unordered drawn c =
      ap (λ (m : Mail). record { mail = m; acts = (told_with_copy me routes drawn c old).acts })
      (after-copy mail me routes drawn c old ∙ one-unordered (eqb c.receiver me) (is_sized routes c) drawn c.receiver c.message)

  pub view-ordered : (drawn : Bool) (c : Delivery Message)
      → changed_view mail (told_with_act (NetworkLast network c.receiver c.message.arrival) (told_with_copy me routes drawn c old)) ≡ with_one drawn true c
  view-ordered drawn c =
      ap (λ (m : Mail). record { mail = m; acts = (told_with_copy me routes drawn c old).acts })
      (after-act mail (NetworkLast network c.receiver c.message.arrival) (told_with_copy me routes drawn c old)
      ∙ (ap (λ (m : Mail). record m { network_last = with_last m.network_last network c.receiver c.message.arrival }) (after-copy mail me routes drawn c old)
      ∙ one-ordered (eqb c.receiver me) (is_sized routes c) drawn c.receiver c.message))

  pub one-as : (d d' o o' : Bool) (c c' : Delivery Message) → d ≡ d' → o ≡ o' → c ≡ c' → with_one d o c ≡ with_one d' o' c'
  one-as d d' o o' c c' p q r = λ i. with_one (p i) (q i) (r i)

-- one copy in a buffer of the controller's own, as a change of the view
module _ (mail : Mail) (me : ℕ) (routes : Routes) (old : Told) where
  abbrev so_far : Mail
  so_far = changed_mail mail old

  abbrev pub one_local_mail : (mine sized ordered : Bool) → (receiver buffer : ℕ) → Message → Mail
  one_local_mail mine sized ordered receiver buffer m = record (mail_with_delivery mine so_far m) {
    sent = so_far.sent + 1;
    copies = so_far.copies + 1;
    lent = cond sized (with_lent so_far.lent receiver m.buffer) so_far.lent;
    local_last = cond ordered (finite.insert so_far.local_last buffer m.arrival) so_far.local_last;
  }

  abbrev pub with_local : (ordered : Bool) → ℕ → Delivery Message → MailView
  with_local ordered buffer c = record {
    mail = one_local_mail (eqb c.receiver me) (is_sized routes c) ordered c.receiver buffer c.message;
    acts = record old.acts { sent = old.acts.sent ++ sent_of c ∷ []; posted = old.acts.posted ++ parcels_for_others me (c ∷ []) };
  }

  local-unordered : (mine sized : Bool) (receiver buffer : ℕ) (m : Message) → copied_mail mine sized false so_far receiver m ≡ one_local_mail mine sized false receiver buffer m
  local-unordered true sized receiver buffer m = refl
  local-unordered false sized receiver buffer m = refl

  local-ordered : (mine sized : Bool) (receiver buffer : ℕ) (m : Message)
      → record (copied_mail mine sized false so_far receiver m) { local_last = finite.insert (copied_mail mine sized false so_far receiver m).local_last buffer m.arrival }
      ≡ one_local_mail mine sized true receiver buffer m
  local-ordered true sized receiver buffer m = refl
  local-ordered false sized receiver buffer m = refl

  pub view-local-unordered : (buffer : ℕ) (c : Delivery Message) → changed_view mail (told_with_copy me routes false c old) ≡ with_local false buffer c
  view-local-unordered buffer c =
      ap (λ (m : Mail). record { mail = m; acts = (told_with_copy me routes false c old).acts })
      (after-copy mail me routes false c old ∙ local-unordered (eqb c.receiver me) (is_sized routes c) c.receiver buffer c.message)

  pub view-local-ordered : (buffer : ℕ) (c : Delivery Message)
      → changed_view mail (told_with_act (LocalLast buffer c.message.arrival) (told_with_copy me routes false c old)) ≡ with_local true buffer c
  view-local-ordered buffer c =
      ap (λ (m : Mail). record { mail = m; acts = (told_with_copy me routes false c old).acts })
      (after-act mail (LocalLast buffer c.message.arrival) (told_with_copy me routes false c old)
      ∙ (ap (λ (m : Mail). record m { local_last = finite.insert m.local_last buffer c.message.arrival }) (after-copy mail me routes false c old)
      ∙ local-ordered (eqb c.receiver me) (is_sized routes c) c.receiver buffer c.message))

  pub local-as : (o o' : Bool) (buffer : ℕ) (c c' : Delivery Message) → o ≡ o' → c ≡ c' → with_local o buffer c ≡ with_local o' buffer c'
  local-as o o' buffer c c' p q = λ i. with_local (p i) buffer (q i)

-- when a copy arrives
pub arrival-as : (o o' : Bool) (base path path' jitter jitter' last : ℕ) → o ≡ o' → path ≡ path' → jitter ≡ jitter'
    → cond o (max (base + path + jitter) last) (base + path + jitter) ≡ cond o' (max (base + path' + jitter') last) (base + path' + jitter')
arrival-as o o' base path path' jitter jitter' last p q r = λ i. cond (p i) (max (base + q i + r i) last) (base + q i + r i)

pub later-than : (now due last arrival : ℕ) (o : Bool) → arrival ≡ cond o (max due last) due → now < due → now < arrival
later-than now due last arrival true is before = omega arith
later-than now due last arrival false is before = omega arith

pub are-words : (actor : Actor) (n : ℕ) (words : Option Position) → AreNext actor n words → is_some words ≡ has_jitter actor
are-words actor n None next = sym next
are-words actor n (Some p) next = sym next.0

-- the number of the next copy is new
pub new-number : (me now n : ℕ) (mail : Mail) → MaySend me now n mail → IsNewIn mail (record { sender = me; count = mail.sent })
new-number me now n mail may k d within same =
    let o = get_or mail.inbox k d in
    let own : o.message.number.count < mail.sent = may.own k d within (ap (λ (x : MsgNo). x.sender) same) in
    let is : o.message.number.count ≡ mail.sent = ap (λ (x : MsgNo). x.count) same in
    absurd (omega arith)

pub lent-fit : (me now : ℕ) (mail : Mail) → now ≤ 10 ^ 12 → MaySend me now 1 mail → LentFit mail
lent-fit me now mail le may k d within =
    let a = may.copies_left in
    let b = may.sent in
    let few : (get_or mail.lent k d).count ≤ mail.sent = may.lent k d within in
    omega arith

pub counts-fit : (me now : ℕ) (mail : Mail) → now ≤ 10 ^ 12 → MaySend me now 1 mail → CountsFit mail
counts-fit me now mail le may =
    let a = may.copies_left in
    let b = may.sent in
    let d = may.drawn in
    record { sent = omega arith; drawn = omega arith; copies = omega arith }

-- what is seen stays
reflects-copied : (queues : Queues) (stalled : List Stalled) (told : Told) (mail : Mail) (mine : Bool) (m : Message) → told.cycle < m.arrival → IsNewIn mail m.number
    → Reflects queues stalled told mail.inbox → Reflects queues stalled told (mail_with_delivery mine mail m).inbox
reflects-copied queues stalled told mail false m later fresh reflects = reflects
reflects-copied queues stalled told mail true m later fresh reflects = record {
  ascends = ascend-with mail.inbox (incoming_message m) reflects.ascends;
  left = λ o seen. (
    λ has. (reflects.left o seen).0 (late-contains told.cycle mail.inbox m later fresh o seen has),
    λ left. still-contains told.cycle mail.inbox m later fresh o ((reflects.left o seen).1 left),
  );
  back = reflects.back;
  moved = reflects.moved;
  parked = reflects.parked;
}

pub are-copied : (store : MailStore) (me : ℕ) (routes : Routes) (drawn : Bool) (c : Delivery Message) (old : Told) → old.cycle ≤ 10 ^ 12 → MaySend me old.cycle 1 (changed_mail (mail_of store) old)
    → old.cycle < c.message.arrival → c.message.number ≡ record { sender = me; count = (changed_mail (mail_of store) old).sent }
    → AreOf store old → AreOf store (told_with_copy me routes drawn c old)
are-copied store me routes drawn c old le may later number are =
    let mail = changed_mail (mail_of store) old in
    let fresh : IsNewIn mail c.message.number = subst (IsNewIn mail) (sym number) (new-number me old.cycle 1 mail may) in
    let new = told_with_copy me routes drawn c old in (
      subst (λ (m : Mail). Reflects store.buffers.items store.stalls.kept new m.inbox) (sym (after-copy (mail_of store) me routes drawn c old))
          (reflects-copied store.buffers.items store.stalls.kept new mail (eqb c.receiver me) c.message later fresh
          (reflects-as store.buffers.items store.stalls.kept old new.counts new.log new.acts refl refl mail.inbox (λ n gone. gone) (λ n gone. gone) are.0)),
      fits-copy (mail_of store) me routes drawn c old (counts-fit me old.cycle mail le may) (lent-fit me old.cycle mail le may) (λ _. fresh) are.1,
    )

-- an act that changes no message
written-reflects : (store : MailStore) (old : Told) (act : MailAct) → (after_act old.cycle (changed_mail (mail_of store) old) act).inbox ≡ (changed_mail (mail_of store) old).inbox
    → AreOf store old → Reflects store.buffers.items store.stalls.kept (told_with_act act old) (changed_mail (mail_of store) (told_with_act act old)).inbox
written-reflects store old act same are =
    let new = told_with_act act old in
    subst (Reflects store.buffers.items store.stalls.kept new) (sym (ap (λ (m : Mail). m.inbox) (after-act (mail_of store) act old) ∙ same))
    (reflects-as store.buffers.items store.stalls.kept old new.counts new.log new.acts refl refl (changed_mail (mail_of store) old).inbox (λ n gone. gone) (λ n gone. gone) are.0)

pub are-last : (store : MailStore) (network receiver arrival : ℕ) (old : Told) → AreOf store old → AreOf store (told_with_act (NetworkLast network receiver arrival) old)
are-last store network receiver arrival old are = (
  written-reflects store old (NetworkLast network receiver arrival) refl are,
  fits-act (mail_of store) old (NetworkLast network receiver arrival) old.acts old.moves tt tt are.1,
)

pub are-local-last : (store : MailStore) (buffer arrival : ℕ) (old : Told) → AreOf store old → AreOf store (told_with_act (LocalLast buffer arrival) old)
are-local-last store buffer arrival old are = (
  written-reflects store old (LocalLast buffer arrival) refl are,
  fits-act (mail_of store) old (LocalLast buffer arrival) old.acts old.moves tt tt are.1,
)

-- more copies may be sent after one
own-at : (me : ℕ) (mail : Mail) (o : InboxMessage) → OwnAreBelow me mail → Contains mail.inbox o → o.message.number.sender ≡ me → o.message.number.count < mail.sent
own-at me mail o all has = All-contains (λ (x : InboxMessage). x.message.number.sender ≡ me → x.message.number.count < mail.sent) mail.inbox o all has

own-after : (me : ℕ) (mail : Mail) (mine : Bool) (m : Message) → m.number ≡ record { sender = me; count = mail.sent } → OwnAreBelow me mail
    → All (λ (o : InboxMessage). o.message.number.sender ≡ me → o.message.number.count < mail.sent + 1) (mail_with_delivery mine mail m).inbox
own-after me mail false m number own k d within same = let so : (get_or mail.inbox k d).message.number.count < mail.sent = own k d within same in omega arith
own-after me mail true m number own k d within same =
    let o = get_or (with_message mail.inbox (incoming_message m)) k d in
    ⊎_elim
    (λ it. let is : mail.sent ≡ o.message.number.count = ap (λ (x : MsgNo). x.count) (sym number) ∙ ap (λ (x : InboxMessage). x.message.number.count) it in omega arith)
    (λ there. let so = own-at me mail o own there.0 same in omega arith)
    ((with_message-contains mail.inbox (incoming_message m) o).0 (Contains-get_or (with_message mail.inbox (incoming_message m)) k d within))

drawn-after : (b : Bool) (drawn most copies : ℕ) → drawn ≤ most + copies → cond b (drawn + 1) drawn ≤ most + (copies + 1)
drawn-after true drawn most copies le = omega arith
drawn-after false drawn most copies le = omega arith

-- one slot more in use is no more than one message more sent
lent-raised : (sent receiver buffer : ℕ) (lent : List Lent) → All (λ (l : Lent). l.count ≤ sent) lent → All (λ (l : Lent). l.count ≤ sent + 1) (map (one_more receiver buffer) lent)
lent-raised sent receiver buffer [] all = λ k d within. absurd (omega arith)
lent-raised sent receiver buffer (l ∷ lent) all =
    All-cons (λ (l : Lent). l.count ≤ sent + 1) (one_more receiver buffer l) (map (one_more receiver buffer) lent)
    (by (is_lent_of receiver buffer l) (All-head (λ (l : Lent). l.count ≤ sent) l lent all))
    (lent-raised sent receiver buffer lent (All-tail (λ (l : Lent). l.count ≤ sent) l lent all))
  where
    by : (b : Bool) → l.count ≤ sent → (cond b (record l { count = l.count + 1 }) l).count ≤ sent + 1
    by true le = omega arith
    by false le = omega arith

lent-by : (sent receiver buffer : ℕ) (lent : List Lent) (there : Bool) → All (λ (l : Lent). l.count ≤ sent) lent
    → All (λ (l : Lent). l.count ≤ sent + 1) (cond there (map (one_more receiver buffer) lent) (lent ++ record { receiver = receiver; buffer = buffer; count = 1 } ∷ []))
lent-by sent receiver buffer lent true all = lent-raised sent receiver buffer lent all
lent-by sent receiver buffer lent false all =
    All-push (λ (l : Lent). l.count ≤ sent + 1) lent (record { receiver = receiver; buffer = buffer; count = 1 })
    (λ k d within. let so : (get_or lent k d).count ≤ sent = all k d within in omega arith) (omega arith)

lent-after : (sent receiver buffer : ℕ) (lent : List Lent) (sized : Bool) → All (λ (l : Lent). l.count ≤ sent) lent
    → All (λ (l : Lent). l.count ≤ sent + 1) (cond sized (with_lent lent receiver buffer) lent)
lent-after sent receiver buffer lent true all = lent-by sent receiver buffer lent (list_any (is_lent_of receiver buffer) lent) all
lent-after sent receiver buffer lent false all = λ k d within. (let so : (get_or lent k d).count ≤ sent = all k d within in omega arith)

pub may-more : (me now more : ℕ) (mail : Mail) (mine sized drawn : Bool) (receiver : ℕ) (m : Message) → m.number ≡ record { sender = me; count = mail.sent }
    → MaySend me now (more + 1) mail → MaySend me now more (copied_mail mine sized drawn mail receiver m)
may-more me now more mail mine sized drawn receiver m number may =
    let a = may.copies_left in
    let b = may.sent in
    record {
      own = own-after me mail mine m number may.own;
      copies_left = omega arith;
      sent = omega arith;
      drawn = drawn-after drawn mail.drawn (4096 * now) mail.copies may.drawn;
      lent = lent-after mail.sent receiver m.buffer mail.lent sized may.lent;
    }

pub may-copied : (mail : Mail) (me : ℕ) (routes : Routes) (drawn : Bool) (c : Delivery Message) (old : Told) (more : ℕ) → c.message.number ≡ record { sender = me; count = (changed_mail mail old).sent }
    → MaySend me old.cycle (more + 1) (changed_mail mail old) → MaySend me old.cycle more (changed_mail mail (told_with_copy me routes drawn c old))
may-copied mail me routes drawn c old more number may =
    subst (MaySend me old.cycle more) (sym (after-copy mail me routes drawn c old))
    (may-more me old.cycle more (changed_mail mail old) (eqb c.receiver me) (is_sized routes c) drawn c.receiver c.message number may)

pub may-last : (mail : Mail) (me network receiver arrival : ℕ) (old : Told) (more : ℕ) → MaySend me old.cycle more (changed_mail mail old)
    → MaySend me old.cycle more (changed_mail mail (told_with_act (NetworkLast network receiver arrival) old))
may-last mail me network receiver arrival old more may =
    subst (MaySend me old.cycle more) (sym (after-act mail (NetworkLast network receiver arrival) old))
    (record { own = may.own; copies_left = may.copies_left; sent = may.sent; drawn = may.drawn; lent = may.lent })

pub may-fewer : (me now n m : ℕ) (mail : Mail) → n ≤ m → MaySend me now m mail → MaySend me now n mail
may-fewer me now n m mail le may = record { own = may.own; copies_left = omega (arith, may.copies_left); sent = may.sent; drawn = may.drawn; lent = may.lent }

pub space-fewer : (changes : MailChanges) (acts n more m : ℕ) → acts ≤ n → more ≤ m → HasSpace changes n m → HasSpace changes acts more
space-fewer changes acts n more m le few space = record { log = omega (arith, space.log); sent = omega (arith, space.sent); posted = omega (arith, space.posted) }

pub space-as : (changes : MailChanges) (n m copies : ℕ) → n ≤ m → HasSpace changes m copies → HasSpace changes n copies
space-as changes n m copies le space = record { log = omega (arith, space.log); sent = space.sent; posted = space.posted }

-- copies one after another
module _ (actor : Actor) (network latency : ℕ) (fields : List Value) (now : ℕ) where
  abbrev step : Sending → ℕ → Sending
  step s receiver = with_network_copy actor network latency fields now s receiver

  more-copies : (v : MailView) (s : Sending) (receiver : ℕ)
      → view_with_network_copy actor network latency fields now (view_with_copies actor.me v s) receiver ≡ view_with_copies actor.me v (step s receiver)
  more-copies v s receiver =
      let more : List (Delivery Message) = (step (no_copies s.mail) receiver).copies in
      let sent : (v.acts.sent ++ map sent_of s.copies) ++ map sent_of more ≡ v.acts.sent ++ map sent_of (s.copies ++ more) =
      append_assoc v.acts.sent (map sent_of s.copies) (map sent_of more) ∙ ap (λ ns. v.acts.sent ++ ns) (sym (map-append sent_of s.copies more)) in
      let both : parcels_for_others actor.me s.copies ++ parcels_for_others actor.me more ≡ parcels_for_others actor.me (s.copies ++ more) =
      sym (map-append with_message_parcel (for_others actor.me s.copies) (for_others actor.me more))
      ∙ ap (λ (cs : List (Delivery Message)). map with_message_parcel cs) (sym (filter-append _ s.copies more)) in
      let posted : (v.acts.posted ++ parcels_for_others actor.me s.copies) ++ parcels_for_others actor.me more ≡ v.acts.posted ++ parcels_for_others actor.me (s.copies ++ more) =
      append_assoc v.acts.posted (parcels_for_others actor.me s.copies) (parcels_for_others actor.me more) ∙ ap (λ (ps : List (Delivery Parcel)). v.acts.posted ++ ps) both in
      λ i. record { mail = (step s receiver).mail; acts = record v.acts { sent = sent i; posted = posted i } }

  -- what was done leads to all copies
  pub record Progress (mail : Mail) (first t : Told) (members left : List ℕ) : Type 0 where
    pub done : Sending
    pub view : changed_view mail t ≡ view_with_copies actor.me (changed_view mail first) done
    pub leads : fold step done left ≡ copies_to_all actor network latency fields now (changed_mail mail first) members

  pub no-progress : (mail : Mail) (first : Told) (members : List ℕ) → Progress mail first first members members
  no-progress mail first members = record {
    done = no_copies (changed_mail mail first);
    view = λ i. record { mail = changed_mail mail first; acts = record first.acts { sent = sym (append-nil first.acts.sent) i; posted = sym (append-nil first.acts.posted) i } };
    leads = refl;
  }

  pub more-progress : (mail : Mail) (first t new : Told) (members : List ℕ) (receiver : ℕ) (left rest : List ℕ) → left ≡ receiver ∷ rest
      → changed_view mail new ≡ view_with_network_copy actor network latency fields now (changed_view mail t) receiver
      → Progress mail first t members left → Progress mail first new members rest
  more-progress mail first t new members receiver left rest is one before = record {
    done = step before.done receiver;
    view =
        one ∙ (ap (λ (v : MailView). view_with_network_copy actor network latency fields now v receiver) before.view
        ∙ more-copies (changed_view mail first) before.done receiver);
    leads = ap (λ (xs : List ℕ). fold step before.done xs) (sym is) ∙ before.leads;
  }

  pub all-done : (mail : Mail) (first t : Told) (members left : List ℕ) → left ≡ [] → Progress mail first t members left
      → changed_view mail t ≡ view_with_copies actor.me (changed_view mail first) (copies_to_all actor network latency fields now (changed_mail mail first) members)
  all-done mail first t members left none before =
      before.view ∙ ap (view_with_copies actor.me (changed_view mail first)) (ap (λ (xs : List ℕ). fold step before.done xs) (sym none) ∙ before.leads)

-- a send on a buffer, once its latency is judged
pub sends-on : (machine : MachineSetup) (actor : Actor) (mail : Mail) (buffer : ℕ) (latency : ℤ) (fields : List Value) (now later : ℕ) (s : BufferSetup) (at : BufferPlace)
    → (is_latency latency ≡ true) × (nat_abs latency ≡ later) → slice_get machine.buffers buffer ≡ Some s → s.place ≡ at
    → send machine actor mail buffer latency fields now ≡ sending_on at s.ordered actor mail buffer later fields now
sends-on machine actor mail buffer latency fields now later s at judged there is =
    ap (λ (b : Bool). cond b (sending_from (slice_get machine.buffers buffer) actor mail buffer (nat_abs latency) fields now) (Err Latency)) judged.0
    ∙ (ap (λ (o : Option BufferSetup). sending_from o actor mail buffer (nat_abs latency) fields now) there
    ∙ (ap (λ n. sending_on s.place s.ordered actor mail buffer n fields now) judged.1
    ∙ ap (λ (p : BufferPlace). sending_on p s.ordered actor mail buffer later fields now) is))
