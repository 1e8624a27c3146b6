use Rattle.std.proofs.Common.{◌≡◌, map, take}
use Rattle.type_numbers.specs.Prelude.{default_of, scoped_of}
use Rattle.type_numbers.proofs.members.defaults_of.Given as goal

abbrev pub invariant-loop-d : goal.invariant-loop-d
invariant-loop-d l = l.list ≡ map default_of (map scoped_of (take l.d-index l.enumerations))
