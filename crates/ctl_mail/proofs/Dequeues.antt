-- A message that is consumed with the credit for it, as a change of the mail.
use Rattle.std.proofs.Common.{◌≡◌, ◌<◌, ◌++◌, ◌&&◌, ℕ, Bool, true, false, cond, eqb, not, Option, Some, Ok, List, [], ◌∷◌, refl, sym, subst, ap, ◌∙◌, inl, inr, ⊎_elim, arith}
use Rattle.std.proofs.lemmas.List.{append-nil}
use Rattle.std.proofs.lemmas.List.Elements.{Contains-append_left, Contains-push, Contains-push_cases}
use Rattle.ruby_value.specs.declared.message.Delivery.{Delivery}
use Rattle.ruby_value.specs.declared.message.Message.{Message}
use Rattle.ruby_value.specs.declared.message.MsgNo.{MsgNo}
use Rattle.ctl_face.specs.declared.parcel.Credit.{Credit}
use Rattle.ctl_face.specs.declared.parcel.Parcel.{Parcel}
use Rattle.ctl_face.specs.Prelude.{Actor, acts_after_dequeue, at_front, credit_for, had_slot, InboxMessage, Mail, mail_after_dequeue, mail_if_credited, mail_without, with_credit_parcel, without_message}
use Rattle.ctl_face.specs.Front as face
use Rattle.ctl_face.proofs.Inboxes.{ascend-without}
use Rattle.ctl_face.proofs.OneKey.{without_message-contains}
use Rattle.ctl_mail.specs.declared.act.MailAct.{MailAct}
use Rattle.ctl_mail.specs.declared.act.MailAct.TheVariants as act
use Rattle.ctl_mail.specs.declared.store.MailStore.{MailStore}
use Rattle.ctl_mail.specs.Prelude.{AreMakeable, AreOf, CopiesFit, Reflects, Told, after_act, after_acts, changed_mail, changed_view, counts_in, dequeue_acts, is_own_credit, mail_at_front, mail_of, told_dequeued, view_after_front, view_popped}
use Rattle.ctl_mail.proofs.Acts.{reflects-gone}
use Rattle.ctl_mail.proofs.SentActs.{after-both, counts-kept, fits-more}

abbrev acts_if : (buffer : ℕ) → Credit → Bool → List MailAct
acts_if buffer credit own = act.Pop buffer ∷ cond own (act.Credit credit ∷ []) []

after-both-acts : (now : ℕ) (mail : Mail) (buffer : ℕ) (credit : Credit) (own : Bool)
    → after_acts now mail (acts_if buffer credit own) ≡ mail_if_credited own (after_act now mail (act.Pop buffer)) credit
unfolding after_acts
after-both-acts now mail buffer credit true = refl
after-both-acts now mail buffer credit false = refl

makeable-acts : (now : ℕ) (mail : Mail) (buffer : ℕ) (credit : Credit) (own : Bool) → now < credit.arrival → AreMakeable now mail (acts_if buffer credit own)
unfolding AreMakeable
makeable-acts now mail buffer credit true later = (tt, (later, tt))
makeable-acts now mail buffer credit false later = (tt, tt)

counts-credited : (mail : Mail) (credit : Credit) (own : Bool) → counts_in (mail_if_credited own mail credit) ≡ counts_in mail
counts-credited mail credit true = refl
counts-credited mail credit false = refl

inbox-credited : (mail : Mail) (credit : Credit) (own : Bool) → (mail_if_credited own mail credit).inbox ≡ mail.inbox
inbox-credited mail credit true = refl
inbox-credited mail credit false = refl

module _ (mail : Mail) (old : Told) (actor : Actor) (buffer : ℕ) (m : Message) (is : face.front (changed_mail mail old) buffer old.cycle ≡ Some m) where
  abbrev before : Mail
  before = changed_mail mail old

  abbrev credit : Credit
  credit = (credit_for actor buffer old.cycle m.number).message

  abbrev own : Bool
  own = is_own_credit actor buffer m.number

  front-out : after_act old.cycle before (act.Pop buffer) ≡ mail_without before m
  front-out = ap (λ (o : Option Message). mail_at_front before (at_front (mail_without before) o)) is

  pub dequeued-mail : changed_mail mail (told_dequeued actor buffer m.number old) ≡ mail_after_dequeue actor buffer old.cycle m.number (mail_without before m)
  dequeued-mail =
      after-both old.cycle mail old.log (dequeue_acts actor buffer old.cycle m.number)
      ∙ (after-both-acts old.cycle before buffer credit own ∙ ap (λ (x : Mail). mail_if_credited own x credit) front-out)

  pub does-dequeue : view_popped actor (changed_view mail old) buffer old.cycle ≡ Ok (changed_view mail (told_dequeued actor buffer m.number old))
  does-dequeue =
      ap (λ (o : Option Message). view_after_front (acts_after_dequeue actor buffer old.cycle old.acts)
      (at_front (λ (x : Message). mail_after_dequeue actor buffer old.cycle x.number (mail_without before x)) o)) is
      ∙ ap (λ (x : Mail). Ok (record { mail = x; acts = acts_after_dequeue actor buffer old.cycle old.acts m.number })) (sym dequeued-mail)

  -- the acts can be made
  pub fits-dequeue : CopiesFit mail old → CopiesFit mail (told_dequeued actor buffer m.number old)
  fits-dequeue fits =
      fits-more mail old (dequeue_acts actor buffer old.cycle m.number) old.counts (told_dequeued actor buffer m.number old).acts old.moves fits
      (makeable-acts old.cycle before buffer credit own (omega arith))
      (fits.counts
      ∙ (sym (counts-kept old.cycle before (act.Pop buffer) tt)
      ∙ (sym (counts-credited (after_act old.cycle before (act.Pop buffer)) credit own) ∙ ap counts_in (sym (after-both-acts old.cycle before buffer credit own)))))

-- changes of a scan of this mail still are that
pub are-of-dequeue : (store : MailStore) (old : Told) (actor : Actor) (buffer : ℕ) (m : Message) → face.front (changed_mail (mail_of store) old) buffer old.cycle ≡ Some m
    → AreOf store old → AreOf store (told_dequeued actor buffer m.number old)
are-of-dequeue store old actor buffer m is are =
    let reflects = are.0 in
    let inbox = (changed_mail (mail_of store) old).inbox in
    let new = told_dequeued actor buffer m.number old in
    let credit : Credit = (credit_for actor buffer old.cycle m.number).message in
    let after : (changed_mail (mail_of store) new).inbox ≡ without_message inbox m.number =
    ap (λ (x : Mail). x.inbox) (dequeued-mail (mail_of store) old actor buffer m is)
    ∙ inbox-credited (mail_without (changed_mail (mail_of store) old) m) credit (is_own_credit actor buffer m.number) in (
      subst (λ (xs : List InboxMessage). Reflects store.buffers.items store.stalls.kept new xs) (sym after)
          (reflects-gone store.buffers.items store.stalls.kept old old.counts new.log new.acts refl refl m.number
          (λ n gone. ⊎_elim (λ consumed. ⊎_elim (λ has. inl (inl has)) (λ same. inr same) (Contains-push_cases old.acts.consumed m.number n consumed)) (λ recycled. inl (inr recycled)) gone)
          (λ n gone. ⊎_elim (λ consumed. inl (Contains-append_left old.acts.consumed (m.number ∷ []) n consumed)) (λ recycled. inr recycled) gone)
          (inl (Contains-push old.acts.consumed m.number))
          inbox (without_message inbox m.number) (ascend-without inbox m.number reflects.ascends)
          (λ o seen. without_message-contains inbox m.number o)
          reflects),
      fits-dequeue (mail_of store) old actor buffer m is are.1,
    )

-- what is kept, by whether the message had a slot, and whether the controller itself had sent it
module _ (actor : Actor) (buffer : ℕ) (number : MsgNo) (old : Told) where
  abbrev credit_of : Delivery Credit
  credit_of = credit_for actor buffer old.cycle number

  abbrev told_so : (had mine : Bool) → Told
  told_so had mine = record old {
    log = old.log ++ acts_if buffer credit_of.message (had && mine);
    acts = record old.acts {
      consumed = old.acts.consumed ++ number ∷ [];
      posted = old.acts.posted ++ cond (had && not mine) (with_credit_parcel credit_of ∷ []) [];
    };
  }

  told-by : (had mine : Bool) → had_slot actor buffer number ≡ had → eqb number.sender actor.me ≡ mine → told_dequeued actor buffer number old ≡ told_so had mine
  told-by had mine p q = λ i. told_so (p i) (q i)

  -- nothing is posted
  unposted : (own : Bool) → record old {
    log = old.log ++ acts_if buffer credit_of.message own;
    acts = record old.acts { consumed = old.acts.consumed ++ number ∷ []; posted = old.acts.posted ++ [] };
  } ≡ record old { log = old.log ++ acts_if buffer credit_of.message own; acts = record old.acts { consumed = old.acts.consumed ++ number ∷ [] } }
  unposted own = ap (λ (ps : List (Delivery Parcel)). record old {
    log = old.log ++ acts_if buffer credit_of.message own;
    acts = record old.acts { consumed = old.acts.consumed ++ number ∷ []; posted = ps };
  }) (append-nil old.acts.posted)

  pub without-credit : had_slot actor buffer number ≡ false
      → record old { log = old.log ++ act.Pop buffer ∷ []; acts = record old.acts { consumed = old.acts.consumed ++ number ∷ [] } } ≡ told_dequeued actor buffer number old
  without-credit had = sym (told-by false (eqb number.sender actor.me) had refl ∙ unposted false)

  pub with-own-credit : had_slot actor buffer number ≡ true → eqb number.sender actor.me ≡ true
      → record old { log = old.log ++ act.Pop buffer ∷ act.Credit credit_of.message ∷ []; acts = record old.acts { consumed = old.acts.consumed ++ number ∷ [] } }
      ≡ told_dequeued actor buffer number old
  with-own-credit had mine = sym (told-by true true had mine ∙ unposted true)

  pub with-posted-credit : had_slot actor buffer number ≡ true → eqb number.sender actor.me ≡ false
      → record old {
        log = old.log ++ act.Pop buffer ∷ [];
        acts = record old.acts { consumed = old.acts.consumed ++ number ∷ []; posted = old.acts.posted ++ with_credit_parcel credit_of ∷ [] };
      } ≡ told_dequeued actor buffer number old
  with-posted-credit had mine = sym (told-by true false had mine)
