use Rattle.std.proofs.Common.{◌≡◌, take, flat_map}
use Rattle.slicc_plan.specs.Prelude.{first_after}
use Rattle.machine_table.specs.Prelude.{found_by}
use Rattle.body_rules.specs.Prelude.{missing_by}
use Rattle.body_rules.proofs.missing.judge_several.Given as goal

abbrev pub invariant-loop-name : goal.invariant-loop-name
invariant-loop-name l = l.first ≡ first_after l.initial.first (flat_map (missing_by (found_by l.numbers)) (take l.name-index l.names))
