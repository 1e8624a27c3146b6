use Rattle.std.proofs.Common.{refl}
use Rattle.scan_steps.proofs.Tries.{tries_ends}
use Rattle.compiled_protocol.proofs.row.state_entered.Goals as goal

pub returns-in-To : goal.returns-in-To
returns-in-To g c = rw c.in-To.is (tries_ends _ _ _ _ refl)
