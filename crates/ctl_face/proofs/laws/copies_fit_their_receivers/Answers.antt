use Rattle.ctl_face.proofs.Receivers.{posted_fit, sends_fit}
use Rattle.ctl_face.proofs.laws.copies_fit_their_receivers.Goals as goal

pub returns : goal.returns
returns c = record { posted = posted_fit; sent = sends_fit }
