use Rattle.machine_table.specs.Prelude.{buffer_seen}
use Rattle.std.proofs.Common.{sym, ◌∙◌}
use Rattle.declared_types.specs.Prelude.{declaration_of}
use Rattle.type_numbers.specs.Prelude.{trees_of}
use Rattle.protocol_symbols.proofs.KeptValues.{buffer_on}
use Rattle.protocol_symbols.proofs.objects.add_buffer.Goals as goal

pub buffer_of_place-requires-clause-place : goal.buffer_of_place-requires-clause-place
buffer_of_place-requires-clause-place c =
    buffer_on (trees_of c.args.types.now) c.args.m.now (declaration_of c.args.d) (buffer_seen c.in-Some.b) c.requires.values (sym c.in-Some.ensures)
