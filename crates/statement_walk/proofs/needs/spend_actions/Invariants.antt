use Rattle.std.proofs.Common.{◌≡◌, take}
use Rattle.body_meaning.specs.Prelude.{action_names, reading}
use Rattle.statement_walk.specs.Prelude.{passes, pick, spent}
use Rattle.statement_walk.proofs.needs.spend_actions.Given as goal

abbrev pub invariant-loop-number : goal.invariant-loop-number
invariant-loop-number l =
    l.left ≡ spent (passes l.s.machine.now l.counted) l.initial.left (action_names (pick l.counted) (reading l.s) (take l.number-index l.actions))
