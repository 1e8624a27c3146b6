use Rattle.std.proofs.Common.{arith}
use Rattle.std.proofs.lemmas.Int.{to_z-of_z}
use Rattle.acts.proofs.Calls.{send_does}
use Rattle.acts.proofs.messages.send.Goals as goal

pub returns : goal.returns
returns g c = grind (arith, to_z-of_z, send_does)
