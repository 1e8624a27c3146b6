use Rattle.ctl_face.proofs.SendAdds.{send_adds}
use Rattle.ctl_face.proofs.SendOrder.{sends_keep_order}
use Rattle.ctl_face.proofs.mail_laws.sends_add_their_copies.Goals as goal

pub returns : goal.returns
returns c = record { added = send_adds; order = sends_keep_order }
