use Rattle.std.proofs.Common.{◌≡◌, drop, filter_map, slice_get}
use Rattle.slicc_plan.specs.Prelude.{sequencer_in}
use Rattle.declared_types.specs.Prelude.{declarations_of}
use Rattle.type_numbers.specs.Prelude.{trees_of}
use Rattle.protocol_symbols.proofs.tables.sequencer.Given as goal

abbrev pub invariant-loop-d : goal.invariant-loop-d
invariant-loop-d l =
    slice_get (filter_map (sequencer_in (trees_of l.types) l.m) (declarations_of l.declarations)) 0 ≡ slice_get (filter_map (sequencer_in (trees_of l.types) l.m) (declarations_of (drop l.d-index l.declarations))) 0
