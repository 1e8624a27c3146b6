use Rattle.std.proofs.Common.{◌≡◌, length}
use Rattle.action_code.specs.EachPlace.{ways_before}
use Rattle.action_code.specs.Table.{Holds}
use Rattle.action_code.proofs.Steps.{from}
use Rattle.action_code.proofs.checking.check_instructions.Given as goal

abbrev pub invariant-loop-at : goal.invariant-loop-at
invariant-loop-at l =
    (length l.table ≡ length l.c.instructions)
    × Holds l.table (ways_before l.p l.body l.c l.at) l.at
    × (from l.p l.body l.c l.at ≡ from l.p l.body l.c 0)
