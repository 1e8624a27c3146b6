use Rattle.std.proofs.Common.{ℕ, List}
use Rattle.std.proofs.lemmas.Result.{IfOk-weaker}
use Rattle.std.specs.Prelude.{codes}
use Rattle.ruby_symbols.specs.declared.types.FieldSymbol.{FieldSymbol}
use Rattle.ruby_value.specs.declared.kind.Kind.{Kind}
use Rattle.ruby_value.specs.declared.kind.Kind.TheVariants as kind
use Rattle.ruby_value.specs.Prelude.{default_value}
use Rattle.protocol_symbols.proofs.Numbered.{four_added}
use Rattle.protocol_symbols.proofs.types.add_request_fields.Goals as goal

abbrev field : List ℕ → Kind → FieldSymbol
field text k = record { name = text; kind = k; initial = default_value k }

pub returns : goal.returns
returns c =
    IfOk-weaker c.add_default_field-4.result _ _
    (λ done last.
    four_added c.args.fields.now c.add_default_field.new.fields c.add_default_field-2.new.fields c.add_default_field-3.new.fields c.add_default_field-4.new.fields (field (codes "LineAddress") kind.Addr)
    (field (codes "PhysicalAddress") kind.Addr) (field (codes "Type") (kind.Enum 2 0)) (field (codes "Size") kind.Int)
    c.in_ok-add_default_field.ensures c.in_ok-add_default_field-2.ensures c.in_ok-add_default_field-3.ensures last)
    c.add_default_field-4.ensures
