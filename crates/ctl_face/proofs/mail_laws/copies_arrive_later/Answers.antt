use Rattle.ctl_face.proofs.Arrivals.{arrives_later}
use Rattle.ctl_face.proofs.mail_laws.copies_arrive_later.Goals as goal

pub returns : goal.returns
returns c = arrives_later
