use Rattle.std.proofs.Common.{◌≡◌, take, map}
use Rattle.slicc_flow.specs.Sends.{transition_sends}
use Rattle.slicc_flow.proofs.sends.sent_by.Given as goal

abbrev pub invariant-loop-t : goal.invariant-loop-t
invariant-loop-t l = l.list ≡ map (transition_sends l.own l.tree) (take l.t-index l.own.transitions)
