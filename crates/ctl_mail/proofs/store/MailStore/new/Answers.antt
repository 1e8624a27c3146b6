use Rattle.std.proofs.Common.{ap, ◌∙◌}
use Rattle.ctl_mail.specs.Prelude.{inbox_of}
use Rattle.ctl_mail.proofs.Makes.{is-no-mail, no-messages}
use Rattle.ctl_mail.proofs.store.MailStore.new.Goals as goal

pub returns-clause-mail : goal.returns-clause-mail
returns-clause-mail c =
    let queues = c.in_ok-buffers.buffers.items in
    is-no-mail _ _ _ _ _ _ (ap (inbox_of queues) c.new.ensures ∙ (no-messages queues c.in_ok-buffers.ensures.empty).1) c.new-2.ensures.items c.in_ok-network_last.ensures c.new-3.ensures c.new-4.ensures.items c.new-5.ensures.items
