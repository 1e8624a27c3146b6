use Rattle.ctl_face.proofs.Fronts.{front_first}
use Rattle.ctl_face.proofs.mail_laws.front_comes_first.Goals as goal

pub returns : goal.returns
returns c = front_first
