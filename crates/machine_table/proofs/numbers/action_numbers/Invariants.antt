use Rattle.std.proofs.Common.{◌≡◌, ℕ, List, ◌≤◌, length, position, take}
use Rattle.slicc_plan.specs.Prelude.{is_named}
use Rattle.machine_table.specs.Prelude.{actions_among, found_by}
use Rattle.machine_table.proofs.numbers.action_numbers.Given as goal

abbrev pub invariant-loop-d : goal.invariant-loop-d
invariant-loop-d l = record {
  numbers : (text : List ℕ) → found_by l.numbers text ≡ position (is_named text) (actions_among (take l.d-index l.ds));
  number : l.number ≡ length (actions_among (take l.d-index l.ds));
  few : l.number ≤ 256;
}
