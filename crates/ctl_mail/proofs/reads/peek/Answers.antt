use Rattle.std.proofs.Common.{sym}
use Rattle.std.specs.Option.{option_copied}
use Rattle.ctl_mail.specs.Prelude.{mail_of, changed_mail, told_by}
use Rattle.ctl_mail.proofs.Fronts.{front-either}
use Rattle.ctl_mail.proofs.reads.peek.Goals as goal

pub returns : goal.returns
returns c =
    let store = c.args.store.now in
    let told = told_by c.args.changes.now in
    sym (front-either store.buffers.items store.stalls.kept told (changed_mail (mail_of store) told) c.requires.mail.holds.own_buffer c.requires.changes.0 c.args.buffer
    (option_copied c.first_ready.result) c.first_ready.ensures)
