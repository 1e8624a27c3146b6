use Rattle.slicc_plan.proofs.Few.{few_machines}
use Rattle.type_numbers.specs.Prelude.{trees_of}
use Rattle.protocol_symbols.proofs.protocol.add_all_machines.Goals as goal

pub all_ports-requires : goal.all_ports-requires
all_ports-requires c = (few_machines (trees_of c.args.types.now) c.requires.types.accepted.of_declarations).machines
