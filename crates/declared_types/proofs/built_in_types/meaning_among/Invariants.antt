use Rattle.std.proofs.Common.{◌≡◌, drop, map}
use Rattle.declared_types.specs.Prelude.{meaning_in, named_of}
use Rattle.declared_types.proofs.built_in_types.meaning_among.Given as goal

abbrev pub invariant-loop-t : goal.invariant-loop-t
invariant-loop-t l = meaning_in (map named_of l.types) l.text ≡ meaning_in (map named_of (drop l.t-index l.types)) l.text
