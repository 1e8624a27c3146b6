use Rattle.acts.proofs.Instances.{mail_moves}
use Rattle.acts.proofs.body_laws.bodies_move_mail.Goals as goal

pub returns : goal.returns
returns g c = mail_moves
