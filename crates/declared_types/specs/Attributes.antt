-- Attributes, as the definitions of a protocol's meaning see them.
use Rattle.slicc_plan.specs.Attributes as plan
use Rattle.declared_types.specs.declared.attributes.Attribute.{Attribute}

abbrev pub attribute_of : Attribute → plan.Attribute
attribute_of a = record { value = a.value.now; place = a.place }
