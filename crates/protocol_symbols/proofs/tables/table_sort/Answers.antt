use Rattle.std.proofs.Common.{arith, sym, ◌∙◌}
use Rattle.std.specs.Option.{option_map}
use Rattle.declared_types.specs.Prelude.{type_of}
use Rattle.protocol_symbols.proofs.KeptValues.{few_entries}
use Rattle.protocol_symbols.proofs.tables.table_sort.Goals as goal

pub overflow_cast-result : goal.overflow_cast-result
overflow_cast-result c =
    let few = few_entries (option_map type_of c.args.t) c.args.pairs.now c.requires (sym c.is_built_in-3.ensures ∙ c.if-is_built_in-3.true) in
    omega (arith, c.written_entries.ensures, few)
