use Rattle.ctl_mail.specs.Prelude.{mail_of}
use Rattle.ctl_mail.proofs.Makes.{after-pop}
use Rattle.ctl_mail.proofs.make.pop.Goals as goal

pub returns-clause-after : goal.returns-clause-after
returns-clause-after c =
    after-pop (mail_of c.args.store.now) (mail_of c.take-taken.new.store) c.args.buffer c.args.now c.take-taken.result c.take-taken.ensures.value c.take-taken.ensures.taken c.take-taken.ensures.none
