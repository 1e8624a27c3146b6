-- A pass may go to another thread. At a call that starts threads, answer what it owes of `Send` by
-- `search (sendable, pass_send, crosses, value.the_send, lock.the_sync) depth 40`, with the value's and the lock's own.
use denote.RattleType.{RattleType}
use denote.Param.Send.{IsSend, sendable}
use Rattle.std.proofs.Crossing.{crosses}
use Rattle.atomic_table.proofs.shared.Seat.TheSendSync as seat
use Rattle.turn_lock.specs.contracts.pass.Pass as Pass
use Rattle.turn_lock.specs.declared.kept.Kept.{Ghosts}

pub pass_send : (V P : RattleType) (g : Ghosts V.Denot P.Denot) → IsSend V → IsSend (Pass.the_row V P g)
pass_send V P g s = search (sendable, seat.the_send, crosses) depth 20
