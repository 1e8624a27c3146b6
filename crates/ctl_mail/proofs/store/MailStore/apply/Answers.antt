use Rattle.std.proofs.Common.{◌≡◌, ◌≤◌, ◌∷◌, List, length, sym, subst, ap, ◌∙◌, arith}
use Rattle.ctl_face.specs.Prelude.{Mail}
use Rattle.ctl_mail.specs.declared.act.MailAct.{MailAct}
use Rattle.ctl_mail.specs.Prelude.{mail_of, AreMakeable, after_acts}
use Rattle.ctl_mail.proofs.Acts.{after-first, after-none, none-there}
use Rattle.ctl_mail.proofs.Edits.{past-end}
use Rattle.ctl_mail.proofs.Rooms.{room-after, room-places, room-to-wake, room-waits}
use Rattle.ctl_mail.proofs.SentActs.{makeable-first}
use Rattle.ctl_mail.proofs.store.MailStore.apply.Goals as goal

pub make-requires-clause-waits : goal.make-requires-clause-waits
make-requires-clause-waits c =
    room-waits c.loop-act.self c.in-Some.act c.pop_front.new.self.items c.loop-act.acts.items c.in-Some.ensures.items c.loop-act.invariant.room

pub make-requires-clause-places : goal.make-requires-clause-places
make-requires-clause-places c =
    room-places c.loop-act.self c.in-Some.act c.pop_front.new.self.items c.loop-act.acts.items c.in-Some.ensures.items c.loop-act.invariant.room

pub make-requires-clause-to_wake : goal.make-requires-clause-to_wake
make-requires-clause-to_wake c =
    room-to-wake c.loop-act.self c.in-Some.act c.pop_front.new.self.items c.loop-act.acts.items c.in-Some.ensures.items c.loop-act.invariant.room

pub loop-act-preserved : goal.loop-act-preserved
loop-act-preserved c =
    let cycle = c.args.changes.now.cycle in
    let mail = mail_of c.loop-act.self in
    let rest = c.pop_front.new.self.items in
    let items : c.loop-act.acts.items ≡ c.in-Some.act ∷ rest = c.in-Some.ensures.items in
    record {
      mail = c.make.ensures.mail;
      buffers = c.make.ensures.buffers ∙ c.loop-act.invariant.buffers;
      leads =
          ap (λ (m : Mail). after_acts cycle m rest) c.make.ensures.after
          ∙ (sym (after-first cycle mail c.in-Some.act rest) ∙ (ap (λ (log : List MailAct). after_acts cycle mail log) (sym items) ∙ c.loop-act.invariant.leads));
      room = room-after c.loop-act.self c.in-Some.act rest c.loop-act.acts.items items c.loop-act.invariant.room c.make.new.store c.make.ensures.room c.make.ensures.waits c.make.ensures.places c.make.ensures.buffers;
      makeable =
          subst (λ (m : Mail). AreMakeable cycle m rest) (sym c.make.ensures.after)
          (makeable-first cycle mail c.in-Some.act rest (subst (AreMakeable cycle mail) items c.loop-act.invariant.makeable)).1;
      cycle = c.loop-act.invariant.cycle;
      acts = c.loop-act.invariant.acts;
    }

pub returns-clause-after : goal.returns-clause-after
returns-clause-after c =
    let cycle = c.args.changes.now.cycle in
    let mail = mail_of c.loop-act.self in
    let none : length c.loop-act.acts.items ≤ 0 = omega (arith, past-end _ 0 c.in_default.ensures.variant.1) in
    sym (after-none cycle mail) ∙ (ap (λ (log : List MailAct). after_acts cycle mail log) (sym (none-there c.loop-act.acts.items none)) ∙ c.loop-act.invariant.leads)
    ∙ ap (λ (log : List MailAct). after_acts cycle (mail_of c.args.self.now) log) c.take-acts.ensures.acts

pub make-requires-clause-makeable : goal.make-requires-clause-makeable
make-requires-clause-makeable c =
    let cycle = c.args.changes.now.cycle in
    let rest = c.pop_front.new.self.items in
    let items : c.loop-act.acts.items ≡ c.in-Some.act ∷ rest = c.in-Some.ensures.items in
    (makeable-first cycle (mail_of c.loop-act.self) c.in-Some.act rest (subst (AreMakeable cycle (mail_of c.loop-act.self)) items c.loop-act.invariant.makeable)).0
