use Rattle.std.proofs.Common.{sym, ◌∙◌}
use Rattle.ctl_mail.specs.Prelude.{mail_of}
use Rattle.ctl_mail.proofs.Inboxes.{inbox-ascends}
use Rattle.ctl_mail.proofs.Makes.{after-recycle}
use Rattle.ctl_mail.proofs.Places.{loses-more, loses-then}
use Rattle.ctl_mail.proofs.make.recycle.Goals as goal

pub returns-clause-after : goal.returns-clause-after
returns-clause-after c =
    let old = c.args.store.now in
    c.put.ensures.after
    ∙ after-recycle (mail_of old) (mail_of c.take.new.store) c.args.buffer c.args.now c.args.arrival c.in-Some.m (inbox-ascends old.buffers.items old.stalls.kept)
    (sym c.in-Some.is ∙ c.take.ensures.value) c.in-Some.ensures.taken

pub returns-in_default-clause-places : goal.returns-in_default-clause-places
returns-in_default-clause-places c = loses-more c.args.store.now c.take.new.store c.take.ensures.places

pub returns-clause-places : goal.returns-clause-places
returns-clause-places c = loses-then c.args.store.now c.take.new.store c.put.new.store c.take.ensures.places c.put.ensures.places
