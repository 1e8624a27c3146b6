use Rattle.std.proofs.Common.{◌≡◌, ℕ, take, slice_get}
use Rattle.std.specs.List.{flat_map}
use Rattle.slicc_flow.specs.Sends.{action_sends}
use Rattle.slicc_flow.proofs.sends.transition_sends.Given as goal

abbrev pub invariant-loop-action : goal.invariant-loop-action
invariant-loop-action l =
    l.list ≡ flat_map (λ (action : ℕ). action_sends l.own l.tree (slice_get l.own.actions action)) (take l.action-index l.t.actions)
