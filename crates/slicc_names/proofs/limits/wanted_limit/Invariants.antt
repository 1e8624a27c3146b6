use Rattle.std.proofs.Common.{◌≡◌, None, find, map, take}
use Rattle.declared_types.specs.Prelude.{declaration_of}
use Rattle.slicc_names.specs.Prelude.{is_wanted}
use Rattle.slicc_names.proofs.limits.wanted_limit.Given as goal

abbrev pub invariant-loop-d : goal.invariant-loop-d
invariant-loop-d l = find (is_wanted l.wanted) (map declaration_of (take l.d-index l.declarations)) ≡ None
