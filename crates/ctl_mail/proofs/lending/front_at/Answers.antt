use Rattle.std.proofs.Common.{◌∙◌, is_some, sym, ap, subst}
use Rattle.std.specs.Option.{option_copied}
use Rattle.ctl_mail.specs.Prelude.{IsEither, IsLeast, changed_mail, mail_of, told_by}
use Rattle.ctl_mail.proofs.Fronts.{front-either}
use Rattle.ctl_mail.proofs.Located.{located-front}
use Rattle.ctl_mail.proofs.lending.front_at.Goals as goal

pub returns-in-Some-clause-there : goal.returns-in-Some-clause-there
returns-in-Some-clause-there c =
    let store = c.args.store.now in
    let told = told_by c.args.changes.now in
    sym
    (ap is_some
    (front-either store.buffers.items store.stalls.kept told (changed_mail (mail_of store) told) c.requires.mail.holds.own_buffer c.requires.changes.0 c.args.buffer
    (option_copied c.first_ready.result) c.first_ready.ensures
    ∙ ap option_copied c.in-Some.is))

pub returns-in-Some-clause-front : goal.returns-in-Some-clause-front
returns-in-Some-clause-front c =
    let store = c.args.store.now in
    let told = told_by c.args.changes.now in
    let first = subst (λ o. IsLeast (IsEither store.buffers.items store.stalls.kept told c.args.buffer) (option_copied o)) c.in-Some.is c.first_ready.ensures in
    located-front store.buffers.items store.stalls.kept c.requires.mail.holds told c.args.buffer c.in-Some.m.now first.one
    ∙ sym
    (front-either store.buffers.items store.stalls.kept told (changed_mail (mail_of store) told) c.requires.mail.holds.own_buffer c.requires.changes.0 c.args.buffer
    (option_copied c.first_ready.result) c.first_ready.ensures
    ∙ ap option_copied c.in-Some.is)

pub returns-in-None-clause-there : goal.returns-in-None-clause-there
returns-in-None-clause-there c =
    let store = c.args.store.now in
    let told = told_by c.args.changes.now in
    sym
    (ap is_some
    (front-either store.buffers.items store.stalls.kept told (changed_mail (mail_of store) told) c.requires.mail.holds.own_buffer c.requires.changes.0 c.args.buffer
    (option_copied c.first_ready.result) c.first_ready.ensures
    ∙ ap option_copied c.in-None.is))
