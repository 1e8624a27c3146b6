use Rattle.std.proofs.Common.{◌≡◌, drop}
use Rattle.std.specs.List.{list_all, list_any}
use Rattle.slicc_plan.specs.Prelude.{ends}
use Rattle.body_rules.specs.Prelude.{arm_ends}
use Rattle.body_rules.proofs.returning.+endings.Given as goal

abbrev pub invariant-statements_end-loop-s : goal.invariant-statements_end-loop-s
invariant-statements_end-loop-s l = list_any ends l.statements ≡ list_any ends (drop l.s-index l.statements)

abbrev pub invariant-others_end-loop-other : goal.invariant-others_end-loop-other
invariant-others_end-loop-other l = list_all arm_ends l.others ≡ list_all arm_ends (drop l.other-index l.others)
