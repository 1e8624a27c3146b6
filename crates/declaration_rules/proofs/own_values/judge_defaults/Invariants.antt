use Rattle.std.proofs.Common.{◌≡◌, take, flat_map, codes}
use Rattle.slicc_plan.specs.Prelude.{machine_names, first_after, is_right_default}
use Rattle.declared_types.specs.Prelude.{type_of}
use Rattle.declaration_rules.specs.Prelude.{bad_pair}
use Rattle.declaration_rules.proofs.own_values.judge_defaults.Given as goal

abbrev pub invariant-loop-p : goal.invariant-loop-p
invariant-loop-p l =
    l.first ≡ first_after l.initial.first (flat_map (bad_pair (codes "default") (is_right_default (machine_names l.scopes.trees.now) l.own (type_of l.t))) (take l.p-index l.items))
