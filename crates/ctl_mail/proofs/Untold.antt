-- What a call on mail says where there was no memory: only that nothing has changed.
use Rattle.std.proofs.Common.{◌≡◌, Result, Ok, Err, IsErrAnd}
use Rattle.ruby_value.specs.declared.fault.Fault.{Fault}
use Rattle.ctl_face.specs.declared.trouble.Trouble.{Trouble}
use Rattle.ctl_face.specs.declared.trouble.Trouble.TheVariants.{NoMemory}
use Rattle.ctl_mail.specs.Prelude.{MailDoes, MailView}

pub without_memory : (want : Result MailView Fault) (r : Result (Unit {0}) Trouble) (old new : MailView) → IsErrAnd r (λ f. f ≡ NoMemory) → new ≡ old → MailDoes want r old new
without_memory want (Ok x) old new is same = absurd is
without_memory want (Err f) old new is same = rw is same
