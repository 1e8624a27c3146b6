use Rattle.std.proofs.Common.{◌++◌, ap, ◌∙◌}
use Rattle.slicc_plan.specs.Prelude.{machines_of, machines_from, symbols_of, enumeration_symbols, structure_symbols}
use Rattle.type_numbers.specs.Prelude.{trees_of}
use Rattle.protocol_symbols.proofs.protocol.symbols_with.Goals as goal

pub returns : goal.returns
unfolding symbols_of
returns c =
    let trees = trees_of c.args.types.now in
    λ i. record {
      enumerations = (c.in_ok-add_all_enumerations.ensures ∙ ap (λ xs. xs ++ enumeration_symbols trees) c.new.ensures) i;
      structures = (c.in_ok-add_all_structures.ensures ∙ ap (λ xs. xs ++ structure_symbols trees) c.new-2.ensures) i;
      machines = (c.in_ok-add_all_machines.ensures ∙ ap (λ xs. xs ++ machines_from trees 0 (machines_of trees)) c.new-3.ensures) i;
    }
