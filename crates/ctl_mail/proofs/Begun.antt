-- As a scan begins, what is ready in the mail is what its queues have, and what waits is what is stalled.
use Rattle.std.proofs.Common.{◌≡◌, ◌≢◌, ℕ, Option, None, Some, [], sym, subst, ◌∙◌, ⊎_elim}
use Rattle.ruby_value.specs.declared.message.MsgNo.{MsgNo}
use Rattle.ctl_face.specs.Prelude.{Mail, no_acts}
use Rattle.ctl_face.proofs.Held.{nothing-there}
use Rattle.ctl_mail.specs.declared.sent.SendCounts.{SendCounts}
use Rattle.ctl_mail.specs.declared.store.MailStore.{MailStore}
use Rattle.ctl_mail.specs.Prelude.{IsAt, IsMail, mail_of, AreOf, IsGone, Reflects, Told, counts_in}
use Rattle.ctl_mail.proofs.Acts.{after-none}
use Rattle.ctl_mail.proofs.Inboxes.{inbox-ascends, inbox-has}
use Rattle.ctl_mail.proofs.AfterMoves.{after-nothing}
use Rattle.ctl_mail.proofs.SentActs.{fits-none}

none-gone : (number : MsgNo) → IsGone no_acts number → ⊥
none-gone number gone = ⊎_elim (nothing-there number) (nothing-there number) gone

some-line : (line : ℕ) (w : Option ℕ) → w ≡ Some line → w ≢ None
some-line line w is none = absurd (cc (is, none))

abbrev told_begun : SendCounts → ℕ → Told
told_begun counts cycle = record { cycle = cycle; counts = counts; log = []; acts = no_acts; moves = [] }

begun : (store : MailStore) (cycle : ℕ) → IsMail store → Reflects store.buffers.items store.stalls.kept (told_begun (counts_in (mail_of store)) cycle) (mail_of store).inbox
begun store cycle is = record {
  ascends = inbox-ascends store.buffers.items store.stalls.kept;
  left = λ o seen. (
    λ has. record {
      before = o.waiting;
      held = (inbox-has store.buffers.items store.stalls.kept is.holds o).0 has;
      now = after-nothing o.message.number o.waiting;
      not_gone = none-gone o.message.number;
    },
    λ l.
        let same : l.before ≡ o.waiting = sym (after-nothing o.message.number l.before) ∙ l.now in
        (inbox-has store.buffers.items store.stalls.kept is.holds o).1
        (subst (λ (w : Option ℕ). IsAt store.buffers.items store.stalls.kept o.message w) same l.held),
  );
  back = λ s has none. absurd (some-line s.line _ (after-nothing s.message.number (Some s.line)) none);
  moved = λ move has. absurd (nothing-there move has);
  parked = λ number waits. absurd (waits (after-nothing number None));
}

pub are-of-none : (store : MailStore) (cycle : ℕ) → IsMail store → AreOf store (told_begun (counts_in (mail_of store)) cycle)
are-of-none store cycle is = (
  subst (λ (mail : Mail). Reflects store.buffers.items store.stalls.kept (told_begun (counts_in (mail_of store)) cycle) mail.inbox) (sym (after-none cycle (mail_of store))) (begun store cycle is),
  fits-none (mail_of store) cycle no_acts,
)
