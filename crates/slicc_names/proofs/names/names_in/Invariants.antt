use Rattle.std.proofs.Common.{◌≡◌, map, take}
use Rattle.declared_types.specs.Prelude.{declaration_of}
use Rattle.slicc_names.specs.Prelude.{once_each, texts_declared}
use Rattle.slicc_names.proofs.names.names_in.Given as goal

abbrev pub invariant-loop-d : goal.invariant-loop-d
invariant-loop-d l = l.names ≡ once_each (texts_declared (map declaration_of (take l.d-index l.declarations)))
