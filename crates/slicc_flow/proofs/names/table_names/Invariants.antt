use Rattle.std.proofs.Common.{◌≡◌, [], take, flat_map}
use Rattle.std.specs.List.{fold}
use Rattle.slicc_plan.specs.Prelude.{name_of_type, with_name}
use Rattle.declared_types.specs.Prelude.{declarations_of}
use Rattle.slicc_flow.specs.Prelude.{is_sort_name}
use Rattle.slicc_flow.proofs.names.table_names.Given as goal

abbrev pub invariant-loop-d : goal.invariant-loop-d
invariant-loop-d l =
    l.names ≡ fold with_name [] (flat_map (name_of_type (is_sort_name l.sort l.scopes.trees.now l.scope)) (declarations_of (take l.d-index l.d-items)))
