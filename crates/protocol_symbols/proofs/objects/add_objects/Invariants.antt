use Rattle.std.proofs.Common.{take}
use Rattle.declared_types.specs.Prelude.{declarations_of}
use Rattle.type_numbers.specs.Prelude.{trees_of}
use Rattle.protocol_symbols.specs.Prelude.{AddObjects}
use Rattle.protocol_symbols.proofs.objects.add_objects.Given as goal

abbrev pub invariant-loop-d : goal.invariant-loop-d
invariant-loop-d l =
    AddObjects (trees_of l.types) l.number l.m (declarations_of (take l.d-index l.declarations)) l.initial.objects l.objects
