use Rattle.std.proofs.Common.{arith}
use Rattle.std.proofs.lemmas.Grind.{common_steps}
use Rattle.ctl_face.proofs.serving.sends.Goals as goal

pub returns-in-Some-From : goal.returns-in-Some-From
returns-in-Some-From c = grind (arith, common_steps)
