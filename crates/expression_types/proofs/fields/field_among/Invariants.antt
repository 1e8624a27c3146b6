use Rattle.std.proofs.Common.{◌≡◌, drop, map, find}
use Rattle.declared_types.specs.Prelude.{meaning_in, named_of}
use Rattle.expression_types.proofs.fields.field_among.Given as goal

abbrev pub invariant-loop-f : goal.invariant-loop-f
invariant-loop-f l = meaning_in (map named_of l.fields) l.text ≡ meaning_in (map named_of (drop l.f-index l.fields)) l.text
