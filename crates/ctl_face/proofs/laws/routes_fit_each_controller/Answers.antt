use Rattle.ctl_face.proofs.OwnBuffers.{fit_each}
use Rattle.ctl_face.proofs.Receivers.{nobody_else}
use Rattle.ctl_face.proofs.laws.routes_fit_each_controller.Goals as goal

pub returns : goal.returns
returns c = record { nobody_else = nobody_else; each = fit_each }
