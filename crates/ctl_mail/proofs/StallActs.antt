-- The front of a buffer is stalled: as a change, and in the mail as it is kept.
use Rattle.std.proofs.Common.{◌≡◌, ◌≢◌, ◌⊎◌, ◌<◌, ◌≤◌, ◌+◌, ◌++◌, ℕ, Bool, get_or, filter, length-append, arith, Option, None, Some, Ok, Err, List, [], ◌∷◌, length, refl, sym, subst, ap, ◌∙◌, inl, inr, ⊎_elim, Contains}
use Rattle.std.proofs.lemmas.List.Elements.{Contains-append_left, Contains-append_right, Contains-get_or}
use Rattle.ruby_value.specs.declared.fault.Fault.TheVariants.{Front}
use Rattle.ruby_value.specs.Prelude.{Roomy}
use Rattle.ruby_value.specs.declared.message.Message.{Message}
use Rattle.ruby_value.specs.declared.message.MsgNo.{MsgNo}
use Rattle.ruby_value.proofs.Contained.{Contains-cons_cases, Contains-cons_here}
use Rattle.stall_map.specs.declared.stalled.Stalled.{Stalled}
use Rattle.stall_map.specs.Prelude.{IsNew, comes_before, with_stalled}
use Rattle.ctl_face.specs.Prelude.{at_front, InboxMessage, Mail, NumbersAscend, changed_message, incoming_message, mail_without, mail_with_waiting, message_waiting_under}
use Rattle.ctl_face.specs.Front as face
use Rattle.ctl_face.specs.Inbox.{with_message}
use Rattle.ctl_face.proofs.Held.{nothing-there}
use Rattle.ctl_face.proofs.Inboxes.{ascend-with}
use Rattle.ctl_face.proofs.OneKey.{changed_message-contains, with_message-contains}
use Rattle.ctl_mail.specs.declared.act.MailAct.TheVariants.{Stall}
use Rattle.ctl_mail.specs.declared.moves.Move.{Move}
use Rattle.ctl_mail.specs.declared.store.MailStore.{MailStore}
use Rattle.ctl_mail.specs.Moves.{with_move, with_moves}
use Rattle.ctl_mail.specs.Prelude.{Has, Holds, IsAt, inbox_of, IsFree, IsMail, IsNewIn, buffer_count, mail_of, view_after_front, view_stalled, Queues, AreOf, Reflects, Told, after_act, changed_mail, changed_view, mail_at_front}
use Rattle.ctl_mail.proofs.SentActs.{fits-act}
use Rattle.ctl_mail.proofs.Acts.{after-more, front-free}
use Rattle.ctl_mail.proofs.Changed.{ascend-changed, readded}
use Rattle.ctl_mail.proofs.Inboxes.{becomes, inbox-ascends, inbox-has}
use Rattle.ctl_mail.proofs.Inserts.{inserted-from, inserted-new, inserted-old, number-order}
use Rattle.ctl_mail.proofs.Makes.{fresh}
use Rattle.ctl_mail.proofs.Rises.{filters-apart, not-after}
use Rattle.ctl_mail.proofs.Shifts.{IsShifted, shifted, waiting_so}

abbrev pub told_stalled : Told → (buffer line : ℕ) → MsgNo → Told
told_stalled old buffer line number = record old {
  log = old.log ++ Stall buffer line ∷ [];
  acts = record old.acts { stalled = old.acts.stalled ++ number ∷ [] };
  moves = with_move old.moves number (Some line);
}

module _ (mail : Mail) (old : Told) where
  stalled-mail : (buffer line : ℕ) (m : Message) → face.front (changed_mail mail old) buffer old.cycle ≡ Some m
      → changed_mail mail (told_stalled old buffer line m.number) ≡ mail_with_waiting (changed_mail mail old) line m
  stalled-mail buffer line m is =
      after-more old.cycle mail old.log (Stall buffer line)
      ∙ ap (λ (o : Option Message). mail_at_front (changed_mail mail old) (at_front (mail_with_waiting (changed_mail mail old) line) o)) is

  pub does-stall : (buffer line : ℕ) (m : Message) → face.front (changed_mail mail old) buffer old.cycle ≡ Some m
      → view_stalled (changed_view mail old) buffer line old.cycle ≡ Ok (changed_view mail (told_stalled old buffer line m.number))
  does-stall buffer line m is =
      let w = changed_view mail old in
      ap (λ (o : Option Message). view_after_front (λ (number : MsgNo). record w.acts { stalled = w.acts.stalled ++ number ∷ [] }) (at_front (mail_with_waiting w.mail line) o)) is
      ∙ ap (λ (after : Mail). Ok (record { mail = after; acts = record w.acts { stalled = w.acts.stalled ++ m.number ∷ [] } })) (sym (stalled-mail buffer line m is))

  pub no-stall : (buffer line : ℕ) → face.front (changed_mail mail old) buffer old.cycle ≡ None
      → view_stalled (changed_view mail old) buffer line old.cycle ≡ Err Front
  no-stall buffer line is =
      let w = changed_view mail old in
      ap (λ (o : Option Message). view_after_front (λ (number : MsgNo). record w.acts { stalled = w.acts.stalled ++ number ∷ [] }) (at_front (mail_with_waiting w.mail line) o)) is

-- one message of the inbox waits under a line from now on
module _ (inbox : List InboxMessage) (cycle line : ℕ) (m : Message) (ascends : NumbersAscend inbox) (held : Contains inbox (incoming_message m)) (arrived : m.arrival ≤ cycle) where
  only : (n : MsgNo) → Contains (m.number ∷ []) n → m.number ≡ n
  only n has = ⊎_elim (λ same. same) (λ none. absurd (nothing-there n none)) (Contains-cons_cases m.number n [] has)

  one-shifted : IsShifted inbox (changed_message inbox m.number (message_waiting_under line)) cycle (m.number ∷ []) (Some line)
  one-shifted =
      let change : InboxMessage → InboxMessage = message_waiting_under line in
      record {
        ascends = ascend-changed inbox m change (λ o. refl) ascends;
        held = λ n has. (incoming_message m, held, only n has, λ _. arrived);
        from = λ o has.
            ⊎_elim
            (λ (so : Contains inbox o × (o.message.number ≢ m.number)). inl (so.0, λ is. so.1 (sym (only o.message.number is))))
            (λ (so : (q : InboxMessage) × Contains inbox q × (q.message.number ≡ m.number) × (change q ≡ o)).
            inr (so.0, so.1, subst (Contains (m.number ∷ [])) (sym so.2) (Contains-cons_here m.number []), so.3))
            ((changed_message-contains inbox m.number change o).0 has);
        stay = λ o has none.
            (changed_message-contains inbox m.number change o).1
            (inl (has, λ same. none (subst (Contains (m.number ∷ [])) (sym same) (Contains-cons_here m.number []))));
        move = λ q has is.
            (changed_message-contains inbox m.number change (waiting_so (Some line) q)).1
            (inr (q, has, sym (only q.message.number is), refl));
      }

one-move : (moves : List Move) (w : Option ℕ) (number : MsgNo) → with_move moves number w ≡ with_moves moves w (number ∷ [])
unfolding with_moves
one-move moves w number = refl

some-is : (line : ℕ) → Some line ≢ None
some-is line same = cc same

pub are-of-stall : (store : MailStore) (old : Told) (buffer line : ℕ) (m : Message) → Holds store.buffers.items store.stalls.kept
    → face.front (changed_mail (mail_of store) old) buffer old.cycle ≡ Some m → AreOf store old → AreOf store (told_stalled old buffer line m.number)
are-of-stall store old buffer line m holds is are =
    let reflects = are.0 in
    let mail = changed_mail (mail_of store) old in
    let new = told_stalled old buffer line m.number in
    let free : IsFree mail.inbox buffer old.cycle m = front-free mail buffer old.cycle m is in (
      subst (λ (after : Mail). Reflects store.buffers.items store.stalls.kept new after.inbox) (sym (stalled-mail (mail_of store) old buffer line m is))
          (shifted store.buffers.items store.stalls.kept old new (m.number ∷ []) (Some line) mail.inbox (changed_message mail.inbox m.number (message_waiting_under line))
          holds reflects (one-shifted mail.inbox old.cycle line m reflects.ascends free.held free.arrived) refl (one-move old.moves (Some line) m.number) (λ n gone. gone) (λ n gone. gone)
          (λ n has. has) (λ none. absurd (some-is line none))
          (λ n has. Contains-append_left old.acts.stalled (m.number ∷ []) n has) (λ _ n has. Contains-append_right old.acts.stalled (m.number ∷ []) n has)),
      fits-act (mail_of store) old (Stall buffer line) new.acts new.moves tt tt are.1,
    )

-- a message waits in the mail as it is kept
module _ (queues : Queues) (stalled new : List Stalled) (line : ℕ) (m : Message) (holds : Holds queues stalled)
    (fresh : (o : InboxMessage) → Has queues stalled o → o.message.number ≢ m.number) (put : new ≡ with_stalled stalled line m) (home : m.buffer < length queues) where
  abbrev it : Stalled
  it = record { line = line; message = m }

  from-new : (s : Stalled) → Contains new s → (it ≡ s) ⊎ Contains stalled s
  from-new s has = inserted-from comes_before stalled it s (subst (λ xs. Contains xs s) put has)

  to-new : (s : Stalled) → Contains stalled s → Contains new s
  to-new s has =
      subst (λ xs. Contains xs s) (sym put)
      (inserted-old comes_before stalled it s (number-order s.message.number m.number (fresh (record { message = s.message; waiting = Some s.line }) has)) has)

  it-in : Contains new it
  it-in = subst (λ xs. Contains xs it) (sym put) (inserted-new comes_before stalled it)

  abbrev waiting_it : InboxMessage
  waiting_it = record { message = m; waiting = Some line }

  has-from : (x : Message) (waiting : Option ℕ) → IsAt queues new x waiting → (waiting_it ≡ record { message = x; waiting = waiting }) ⊎ IsAt queues stalled x waiting
  has-from x None has = inr has
  has-from x (Some l) has =
      ⊎_elim
      (λ same. inl (ap (λ (s : Stalled). record { message = s.message; waiting = Some s.line }) same))
      (λ there. inr there)
      (from-new (record { line = l; message = x }) has)

  has-to : (x : Message) (waiting : Option ℕ) → IsAt queues stalled x waiting → IsAt queues new x waiting
  has-to x None has = has
  has-to x (Some l) has = to-new (record { line = l; message = x }) has

  pub waits-in-it : Holds queues new × (inbox_of queues new ≡ with_message (inbox_of queues stalled) waiting_it)
  waits-in-it =
      let inbox = inbox_of queues stalled in
      becomes queues new (with_message inbox waiting_it) (ascend-with inbox waiting_it (inbox-ascends queues stalled)) holds.own_buffer
      (λ s has. ⊎_elim (λ same. subst (λ (z : Stalled). z.message.buffer < length queues) same home) (λ there. holds.homes s there) (from-new s has))
      (λ o. (
        λ has.
            (with_message-contains inbox waiting_it o).1
            (⊎_elim
            (λ same. inl same)
            (λ there. inr ((inbox-has queues stalled holds o).1 there, fresh o there))
            (has-from o.message o.waiting has)),
        λ is.
            ⊎_elim
            (λ same. subst (Has queues new) same it-in)
            (λ so. has-to o.message o.waiting ((inbox-has queues stalled holds o).0 so.0))
            ((with_message-contains inbox waiting_it o).0 is),
      ))

-- what an act on the front makes of the mail
pub after-stall : (mail middle : Mail) (buffer line now : ℕ) (m : Message) → NumbersAscend mail.inbox → Some m ≡ face.front mail buffer now → middle ≡ mail_without mail m
    → record middle { inbox = with_message middle.inbox (record { message = m; waiting = Some line }) } ≡ after_act now mail (Stall buffer line)
after-stall mail middle buffer line now m ascends is taken =
    let free : IsFree mail.inbox buffer now m = front-free mail buffer now m (sym is) in
    ap (λ (z : Mail). record z { inbox = with_message z.inbox (record { message = m; waiting = Some line }) }) taken
    ∙ (ap (λ xs. record mail { inbox = xs }) (readded mail.inbox m (message_waiting_under line) ascends free.held (λ o. refl))
    ∙ ap (λ (o : Option Message). mail_at_front mail (at_front (mail_with_waiting mail line) o)) is)

pub no-stall-act : (mail after : Mail) (buffer line now : ℕ) → None ≡ face.front mail buffer now → after ≡ mail → after ≡ after_act now mail (Stall buffer line)
no-stall-act mail after buffer line now is same = same ∙ ap (λ (o : Option Message). mail_at_front mail (at_front (mail_with_waiting mail line) o)) is

module _ (store : MailStore) (stalls : Roomy (List Stalled)) (line : ℕ) (m : Message) (is_mail : IsMail store) (new : IsNewIn (mail_of store) m.number) where
  -- the number isn't among the stalled ones
  pub new-stalled : IsNew store.stalls.kept m.number
  new-stalled k d within =
      let s = get_or store.stalls.kept k d in
      fresh store store.buffers is_mail refl m.number new (record { message = s.message; waiting = Some s.line }) (Contains-get_or store.stalls.kept k d within)

  pub made-stall : stalls.kept ≡ with_stalled store.stalls.kept line m → m.buffer < buffer_count store
      → (mail_of (record store { stalls = stalls }) ≡ record (mail_of store) { inbox = with_message (mail_of store).inbox (record { message = m; waiting = Some line }) })
      × IsMail (record store { stalls = stalls })
  made-stall put home =
      let so = waits-in-it store.buffers.items store.stalls.kept stalls.kept line m is_mail.holds (fresh store store.buffers is_mail refl m.number new) put home in (
        ap (λ xs. record (mail_of store) { inbox = xs }) so.1,
        record { holds = so.0; marks_ascend = is_mail.marks_ascend; credits_ascend = is_mail.credits_ascend },
      )

-- one more waits at most
pub one-more : (stalled : List Stalled) (line : ℕ) (m : Message) → length (with_stalled stalled line m) ≤ length stalled + 1
one-more stalled line m =
    let it : Stalled = record { line = line; message = m } in
    let p : Stalled → Bool = λ o. comes_before o it in
    let q : Stalled → Bool = λ o. comes_before it o in
    let both : length (filter p stalled) + length (filter q stalled) ≤ length stalled =
    filters-apart p q (λ s low high. absurd (cc (high, not-after s.message.number m.number low))) stalled in
    simp length-append (omega arith)
