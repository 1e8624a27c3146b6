use Rattle.std.proofs.Common.{◌≡◌, filter_map, take}
use Rattle.machine_table.specs.Prelude.{found_by, found_name}
use Rattle.machine_table.proofs.written.numbers_of.Given as goal

abbrev pub invariant-loop-name : goal.invariant-loop-name
invariant-loop-name l = l.found ≡ filter_map (found_name (found_by l.numbers)) (take l.name-index l.names)
