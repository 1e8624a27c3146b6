use Rattle.ctl_face.proofs.Opened.{opening_fits}
use Rattle.ctl_face.proofs.laws.opening_controllers_fit.Goals as goal

pub returns : goal.returns
returns c = opening_fits
