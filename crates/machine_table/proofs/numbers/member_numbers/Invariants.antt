use Rattle.std.proofs.Common.{◌≡◌, ℕ, List, map, position, take}
use Rattle.slicc_plan.specs.Prelude.{is_named}
use Rattle.machine_table.specs.Prelude.{found_by}
use Rattle.machine_table.proofs.numbers.member_numbers.Given as goal

abbrev pub invariant-loop-number : goal.invariant-loop-number
invariant-loop-number g l = (text : List ℕ) → found_by l.numbers text ≡ position (is_named text) (map g.T.Member.declared (take l.number l.members))
