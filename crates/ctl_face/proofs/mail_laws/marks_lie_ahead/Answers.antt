use Rattle.ctl_face.proofs.Ahead.{ahead_again, ahead_recycle, ahead_enqueue}
use Rattle.ctl_face.proofs.mail_laws.marks_lie_ahead.Goals as goal

pub returns : goal.returns
returns c = record { again = ahead_again; recycle = ahead_recycle; enqueue = ahead_enqueue }
