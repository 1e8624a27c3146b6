-- An act that a scan keeps, as an act on the changed mail; and what stays so of the messages that are left.
use Rattle.std.proofs.Common.{◌≡◌, ◌≢◌, ◌⊎◌, ◌<◌, ◌≤◌, ◌++◌, ◌+◌, ◌↔◌, ℕ, ℤ, Bool, true, false, cond, nat_abs, Option, None, Some, Ok, Err, List, [], ◌∷◌, refl, sym, subst, ap, ◌∙◌, inl, inr, ⊎_elim, length, Contains, arith}
use Rattle.std.specs.List.{fold}
use Rattle.std.proofs.lemmas.List.Elements.{Contains-append_left, Contains-push, Contains-push_cases}
use Rattle.ruby_value.specs.declared.fault.Fault.TheVariants.{Front, Latency}
use Rattle.ruby_value.specs.declared.message.Message.{Message}
use Rattle.ruby_value.specs.declared.message.MsgNo.{MsgNo}
use Rattle.stall_map.specs.declared.stalled.Stalled.{Stalled}
use Rattle.ctl_face.specs.Prelude.{Acts, at_front, InboxMessage, Mail, NumbersAscend, changed_message, is_latency, incoming_message, mail_with_recycled, message_arriving_again}
use Rattle.ctl_face.specs.Front as face
use Rattle.ctl_face.proofs.OneKey.{changed_message-contains}
use Rattle.ctl_face.proofs.Fronts.{front_first}
use Rattle.ctl_mail.proofs.Changed.{ascend-changed}
use Rattle.ctl_mail.proofs.Inboxes.{one-of-ascending}
use Rattle.ctl_mail.proofs.Leasts.{front-least}
use Rattle.ctl_mail.proofs.SentActs.{fits-act}
use Rattle.ctl_mail.specs.declared.act.MailAct.{MailAct}
use Rattle.ctl_mail.specs.declared.act.MailAct.TheVariants.{Mark, Recycle}
use Rattle.ctl_mail.specs.declared.sent.SendCounts.{SendCounts}
use Rattle.ctl_mail.specs.Prelude.{view_after_front, view_again, view_recycled, IsFree, IsLeast, Queues, mail_of, AreOf, IsGone, IsSeen, Reflects, Told, after_act, after_acts, changed_mail, changed_view, mail_at_front}
use Rattle.ctl_mail.specs.declared.store.MailStore.{MailStore}

pub fold-more : {A B : Type 0} (f : B → A → B) (b : B) (xs : List A) (x : A) → fold f b (xs ++ x ∷ []) ≡ f (fold f b xs) x
fold-more f b [] x = refl
fold-more f b (y ∷ xs) x = fold-more f (f b y) xs x

pub after-more : (cycle : ℕ) (mail : Mail) (log : List MailAct) (act : MailAct) → after_acts cycle mail (log ++ act ∷ []) ≡ after_act cycle (after_acts cycle mail log) act
unfolding after_acts
after-more cycle mail log act = fold-more (after_act cycle) mail log act

pub after-first : (cycle : ℕ) (mail : Mail) (act : MailAct) (rest : List MailAct) → after_acts cycle mail (act ∷ rest) ≡ after_acts cycle (after_act cycle mail act) rest
unfolding after_acts
after-first cycle mail act rest = refl

pub after-none : (cycle : ℕ) (mail : Mail) → after_acts cycle mail [] ≡ mail
unfolding after_acts
after-none cycle mail = refl

pub none-there : {X : Type 0} (xs : List X) → length xs ≤ 0 → xs ≡ []
none-there [] none = refl
none-there (x ∷ xs) none = absurd (omega arith)

abbrev pub told_again : Told → ℕ → Told
told_again old cycle = record old {
  log = old.log ++ Mark cycle ∷ [];
  acts = record old.acts { again = true };
}

module _ (mail : Mail) (old : Told) where
  pub does-again : view_again (changed_view mail old) old.cycle ≡ changed_view mail (told_again old (old.cycle + 1))
  does-again =
      ap (λ (after : Mail). record { mail = after; acts = record old.acts { again = true } }) (sym (after-more old.cycle mail old.log (Mark (old.cycle + 1))))

-- other acts of the same scan, by which the same messages are gone
module _ (queues : Queues) (stalled : List Stalled) (old : Told) (counts : SendCounts) (log : List MailAct) (acts : Acts) (woken : acts.woken ≡ old.acts.woken) (stalled_still : acts.stalled ≡ old.acts.stalled) where
  still-parked : (n : MsgNo) → Contains old.acts.stalled n → Contains acts.stalled n
  still-parked n has = subst (λ (ns : List MsgNo). Contains ns n) (sym stalled_still) has

  abbrev told_as : Told
  told_as = record old { counts = counts; log = log; acts = acts }

  pub reflects-as : (inbox : List InboxMessage) → ((n : MsgNo) → IsGone old.acts n → IsGone acts n) → ((n : MsgNo) → IsGone acts n → IsGone old.acts n)
      → Reflects queues stalled old inbox → Reflects queues stalled told_as inbox
  reflects-as inbox on back reflects = record {
    ascends = reflects.ascends;
    left = λ o seen. (
      λ has.
          let l = (reflects.left o seen).0 has in
          record { before = l.before; held = l.held; now = l.now; not_gone = λ gone. l.not_gone (back o.message.number gone) },
      λ l.
          (reflects.left o seen).1 (record { before = l.before; held = l.held; now = l.now; not_gone = λ gone. l.not_gone (on o.message.number gone) }),
    );
    back = λ s has none. subst (λ (ns : List MsgNo). Contains ns s.message.number) (sym woken) (reflects.back s has none);
    moved = reflects.moved;
    parked = λ n waits. still-parked n (reflects.parked n waits);
  }

  -- one message more is gone, and the inbox no longer has it
  module _ (number : MsgNo) (more : (n : MsgNo) → IsGone acts n → IsGone old.acts n ⊎ (number ≡ n)) (still : (n : MsgNo) → IsGone old.acts n → IsGone acts n) (it : IsGone acts number) where
    abbrev Loses : (before after : List InboxMessage) → InboxMessage → Type 0
    Loses before after o = Contains after o ↔ (Contains before o × (o.message.number ≢ number))

    pub reflects-gone : (before after : List InboxMessage) → NumbersAscend after → ((o : InboxMessage) → IsSeen old.cycle o → Loses before after o)
        → Reflects queues stalled old before → Reflects queues stalled told_as after
    reflects-gone before after ascends loses reflects = record {
      ascends = ascends;
      left = λ o seen. (
        λ has.
            let so = (loses o seen).0 has in
            let l = (reflects.left o seen).0 so.0 in
            record {
              before = l.before;
              held = l.held;
              now = l.now;
              not_gone = λ gone. ⊎_elim l.not_gone (λ same. so.1 (sym same)) (more o.message.number gone);
            },
        λ l.
            (loses o seen).1 (
              (reflects.left o seen).1 (record { before = l.before; held = l.held; now = l.now; not_gone = λ gone. l.not_gone (still o.message.number gone) }),
              λ same. l.not_gone (subst (IsGone acts) (sym same) it),
            ),
      );
      back = λ s has none. subst (λ (ns : List MsgNo). Contains ns s.message.number) (sym woken) (reflects.back s has none);
      moved = reflects.moved;
      parked = λ n waits. still-parked n (reflects.parked n waits);
    }

-- the messages of a number are all others, or arrive later
pub changed-loses : (inbox : List InboxMessage) (number : MsgNo) (change : InboxMessage → InboxMessage) (o : InboxMessage)
    → ((q : InboxMessage) → Contains inbox q → q.message.number ≡ number → change q ≢ o)
    → Contains (changed_message inbox number change) o ↔ (Contains inbox o × (o.message.number ≢ number))
changed-loses inbox number change o never = (
  λ has.
      ⊎_elim
      (λ (so : Contains inbox o × (o.message.number ≢ number)). so)
      (λ (so : (q : InboxMessage) × Contains inbox q × (q.message.number ≡ number) × (change q ≡ o)). absurd (never so.0 so.1 so.2 so.3))
      ((changed_message-contains inbox number change o).0 has),
  λ so. (changed_message-contains inbox number change o).1 (inl so),
)

abbrev pub told_recycled : Told → (buffer arrival : ℕ) → MsgNo → Told
told_recycled old buffer arrival number = record old {
  log = old.log ++ Recycle buffer arrival ∷ [];
  acts = record old.acts { recycled = old.acts.recycled ++ number ∷ [] };
}

module _ (mail : Mail) (old : Told) where
  recycled-mail : (buffer arrival : ℕ) (m : Message) → face.front (changed_mail mail old) buffer old.cycle ≡ Some m
      → changed_mail mail (told_recycled old buffer arrival m.number) ≡ mail_with_recycled (changed_mail mail old) arrival m
  recycled-mail buffer arrival m is =
      after-more old.cycle mail old.log (Recycle buffer arrival)
      ∙ ap (λ (o : Option Message). mail_at_front (changed_mail mail old) (at_front (mail_with_recycled (changed_mail mail old) arrival) o)) is

  by-latency : (buffer : ℕ) (latency : ℤ) (b : Bool) → is_latency latency ≡ b
      → view_recycled (changed_view mail old) buffer latency old.cycle
      ≡ view_after_front (λ (number : MsgNo). record old.acts { recycled = old.acts.recycled ++ number ∷ [] }) (cond b (at_front (mail_with_recycled (changed_mail mail old) (old.cycle + nat_abs latency)) (face.front (changed_mail mail old) buffer old.cycle)) (Err Latency))
  by-latency buffer latency b is =
      ap (λ (t : Bool). view_after_front (λ (number : MsgNo). record old.acts { recycled = old.acts.recycled ++ number ∷ [] }) (cond t (at_front (mail_with_recycled (changed_mail mail old) (old.cycle + nat_abs latency)) (face.front (changed_mail mail old) buffer old.cycle)) (Err Latency))) is

  by-front : (buffer arrival : ℕ) (o : Option Message) → face.front (changed_mail mail old) buffer old.cycle ≡ o
      → view_after_front (λ (number : MsgNo). record old.acts { recycled = old.acts.recycled ++ number ∷ [] }) (at_front (mail_with_recycled (changed_mail mail old) arrival) (face.front (changed_mail mail old) buffer old.cycle))
      ≡ view_after_front (λ (number : MsgNo). record old.acts { recycled = old.acts.recycled ++ number ∷ [] }) (at_front (mail_with_recycled (changed_mail mail old) arrival) o)
  by-front buffer arrival o is =
      ap (λ (p : Option Message). view_after_front (λ (number : MsgNo). record old.acts { recycled = old.acts.recycled ++ number ∷ [] }) (at_front (mail_with_recycled (changed_mail mail old) arrival) p)) is

  pub does-recycle : (buffer : ℕ) (latency : ℤ) (m : Message) → is_latency latency ≡ true → face.front (changed_mail mail old) buffer old.cycle ≡ Some m
      → view_recycled (changed_view mail old) buffer latency old.cycle ≡ Ok (changed_view mail (told_recycled old buffer (old.cycle + nat_abs latency) m.number))
  does-recycle buffer latency m ok is =
      by-latency buffer latency true ok
      ∙ (by-front buffer (old.cycle + nat_abs latency) (Some m) is
      ∙ ap (λ (after : Mail). Ok (record { mail = after; acts = record old.acts { recycled = old.acts.recycled ++ m.number ∷ [] } })) (sym (recycled-mail buffer (old.cycle + nat_abs latency) m is)))

  pub no-recycle : (buffer : ℕ) (latency : ℤ) → is_latency latency ≡ true → face.front (changed_mail mail old) buffer old.cycle ≡ None
      → view_recycled (changed_view mail old) buffer latency old.cycle ≡ Err Front
  no-recycle buffer latency ok is = by-latency buffer latency true ok ∙ by-front buffer (old.cycle + nat_abs latency) None is

  pub bad-latency : (buffer : ℕ) (latency : ℤ) → is_latency latency ≡ false → view_recycled (changed_view mail old) buffer latency old.cycle ≡ Err Latency
  bad-latency buffer latency bad = by-latency buffer latency false bad

-- the front that an act is done to is in the inbox, as one that has arrived
pub front-free : (mail : Mail) (buffer now : ℕ) (m : Message) → face.front mail buffer now ≡ Some m → IsFree mail.inbox buffer now m
front-free mail buffer now m is =
    (subst (IsLeast (IsFree mail.inbox buffer now)) is (front-least mail.inbox buffer now (face.front mail buffer now) (front_first mail buffer now))).one

pub are-of-recycle : (store : MailStore) (old : Told) (buffer arrival : ℕ) (m : Message) → old.cycle < arrival → face.front (changed_mail (mail_of store) old) buffer old.cycle ≡ Some m
    → AreOf store old → AreOf store (told_recycled old buffer arrival m.number)
are-of-recycle store old buffer arrival m later is are =
    let reflects = are.0 in
    let mail = changed_mail (mail_of store) old in
    let inbox = mail.inbox in
    let new = told_recycled old buffer arrival m.number in
    let change : InboxMessage → InboxMessage = message_arriving_again arrival in
    let free : IsFree inbox buffer old.cycle m = front-free mail buffer old.cycle m is in
    let never : (o : InboxMessage) → IsSeen old.cycle o → (q : InboxMessage) → Contains inbox q → q.message.number ≡ m.number → change q ≢ o =
    λ o seen q has number same.
    let it : q ≡ incoming_message m = one-of-ascending inbox reflects.ascends q (incoming_message m) has free.held number in
    let waits : o.waiting ≡ None = ap (λ (z : InboxMessage). z.waiting) (sym same) ∙ ap (λ (z : InboxMessage). z.waiting) it in
    let so : o.message.arrival ≤ old.cycle = seen waits in
    let at : arrival ≡ o.message.arrival = ap (λ (z : InboxMessage). z.message.arrival) same in
    absurd (omega arith) in (
      subst (λ (after : Mail). Reflects store.buffers.items store.stalls.kept new after.inbox) (sym (recycled-mail (mail_of store) old buffer arrival m is))
          (reflects-gone store.buffers.items store.stalls.kept old old.counts new.log new.acts refl refl m.number
          (λ n gone. ⊎_elim (λ consumed. inl (inl consumed)) (λ recycled. ⊎_elim (λ has. inl (inr has)) (λ same. inr same) (Contains-push_cases old.acts.recycled m.number n recycled)) gone)
          (λ n gone. ⊎_elim (λ consumed. inl consumed) (λ recycled. inr (Contains-append_left old.acts.recycled (m.number ∷ []) n recycled)) gone)
          (inr (Contains-push old.acts.recycled m.number))
          inbox (changed_message inbox m.number change) (ascend-changed inbox m change (λ o. refl) reflects.ascends)
          (λ o seen. changed-loses inbox m.number change o (never o seen))
          reflects),
      fits-act (mail_of store) old (Recycle buffer arrival) new.acts old.moves tt tt are.1,
    )

-- changes of a scan of this mail still are that after an act
pub are-of-again : (store : MailStore) (old : Told) (cycle : ℕ) → AreOf store old → AreOf store (told_again old cycle)
are-of-again store old cycle are =
    let new = told_again old cycle in (
      subst (λ (mail : Mail). Reflects store.buffers.items store.stalls.kept new mail.inbox) (sym (after-more old.cycle (mail_of store) old.log (Mark cycle)))
          (reflects-as store.buffers.items store.stalls.kept old old.counts new.log new.acts refl refl (changed_mail (mail_of store) old).inbox (λ n gone. gone) (λ n gone. gone) are.0),
      fits-act (mail_of store) old (Mark cycle) new.acts old.moves tt tt are.1,
    )
