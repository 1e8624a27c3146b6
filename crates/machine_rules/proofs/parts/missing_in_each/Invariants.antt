use Rattle.std.proofs.Common.{◌≡◌, map, take}
use Rattle.slicc_plan.specs.Prelude.{missing_parts_in, in_each_from, first_after}
use Rattle.machine_rules.proofs.parts.missing_in_each.Given as goal

abbrev pub invariant-loop-place : goal.invariant-loop-place
invariant-loop-place l = l.found ≡ first_after l.fn.first (in_each_from 0 missing_parts_in (map (λ m. m.now) (take l.place l.machines)))
