use Rattle.std.proofs.Common.{arith}
use Rattle.std.proofs.lemmas.Grind.{common_steps}
use Rattle.ctl_face.proofs.lawful.has_routes.Goals as goal

pub returns-then-receives_from : goal.returns-then-receives_from
returns-then-receives_from c = grind (arith, common_steps)
