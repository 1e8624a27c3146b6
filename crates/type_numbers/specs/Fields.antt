-- Fields, as the definitions of a protocol's meaning see them.
use Rattle.slicc_plan.specs.Prelude.{FieldIn}
use Rattle.declared_types.specs.Prelude.{scope_of}
use Rattle.type_numbers.specs.declared.fields.Field.{Field}

abbrev pub field_seen : Field → FieldIn
field_seen f = record { scope = scope_of f.scope; kind = f.kind.now; attributes = f.pairs.now }
