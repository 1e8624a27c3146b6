use Rattle.std.proofs.Common.{◌≡◌, take, flat_map}
use Rattle.slicc_plan.specs.Prelude.{first_after, is_number_within}
use Rattle.declaration_rules.specs.Prelude.{bad_pair}
use Rattle.declaration_rules.proofs.values.number_attributes.Given as goal

abbrev pub invariant-loop-p : goal.invariant-loop-p
invariant-loop-p l = l.first ≡ first_after l.initial.first (flat_map (bad_pair l.key (is_number_within l.low l.high)) (take l.p-index l.items))
