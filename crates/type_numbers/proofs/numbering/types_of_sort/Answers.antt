use Rattle.std.proofs.Common.{ap, filter, flat_map, map, sym, ◌∙◌}
use Rattle.slicc_plan.specs.Prelude.{Declaration, global_declarations, made_with_its_own}
use Rattle.declared_types.specs.Prelude.{declarations_of}
use Rattle.type_numbers.specs.Prelude.{has_sort, scoped_of}
use Rattle.type_numbers.proofs.Lists.{filter_flat_map, from_nothing}
use Rattle.type_numbers.proofs.numbering.types_of_sort.Goals as goal

pub returns : goal.returns
returns c =
    let found = λ (d : Declaration). filter (has_sort c.args.sort) (made_with_its_own d) in
    from_nothing scoped_of (map scoped_of c.add_all.new.list) c.new-list.result (flat_map found (declarations_of c.declarations.result.now)) c.new-list.ensures c.in_ok-add_all.ensures
    ∙ ap (flat_map found) c.declarations.ensures
    ∙ sym (filter_flat_map (has_sort c.args.sort) made_with_its_own (global_declarations c.args.scopes.now.trees.now))
