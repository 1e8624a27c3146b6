use denote.Param.Send.{sendable}
use Rattle.std.proofs.Crossing.{crosses}
use Rattle.turn_lock.proofs.Crossing.{pass_send}
use Rattle.turn_lock_tests.proofs.tally.Tally.TheSendSync as value
use Rattle.turn_lock_tests.proofs.counting.count_each.Goals as goal

pub map_vec-requires-send-J : goal.map_vec-requires-send-J
map_vec-requires-send-J g c κs within = search (sendable, pass_send, crosses, value.the_send) depth 40

pub map_vec-requires-send-X : goal.map_vec-requires-send-X
map_vec-requires-send-X g c κs within = search (sendable, pass_send, crosses, value.the_send) depth 40
