-- A field's type is a structure, a table or `void`, none of which a field may have. That is told at the type. A field's type
-- that isn't known breaks another rule.
use Rattle.std.specs.Prelude.{Bool, true, false, cond, Option, None, Some, List, [], ◌∷◌, flat_map}
use Rattle.slicc_ast.specs.declared.tree.span.Span.{Span}
use Rattle.slicc_ast.specs.declared.tree.name.TypeName.{TypeName}
use Rattle.slicc_ast.specs.declared.tree.item.Tree.{Tree}
use Rattle.slicc_ast.specs.declared.tree.declaration.Member.{Member}
use Rattle.slicc_ast.specs.declared.tree.declaration.Member.TheVariants.{Field, Method, Skipped}
use Rattle.slicc_ast.specs.declared.tree.declaration.Pairs.{Pairs}
use Rattle.slicc_plan.specs.declared.broken.Broken.{Broken}
use Rattle.slicc_plan.specs.declared.broken.Rule.TheVariants.{NoFieldType}
use Rattle.slicc_plan.specs.BuiltIn.{Nature, number, boolean, address, enumeration, other_value, structure as structure_nature, table, nothing}
use Rattle.slicc_plan.specs.Declarations.{Declaration, structure, Scope, declared_in, is_external, wide_scopes}
use Rattle.slicc_plan.specs.Types.{KnownType, nature_in, type_in}

-- a field of a structure that isn't external
pub record FieldIn : Type 0 where
  pub scope : Scope
  pub kind : TypeName
  pub attributes : Pairs

abbrev pub field_of : Scope → Member → List FieldIn
field_of scope (Field kind called attributes span) =
    record { scope = scope; kind = kind; attributes = attributes } ∷ []
field_of scope (Method kind called formals attributes span) = []
field_of scope (Skipped s) = []

abbrev pub fields_of : Scope → Declaration → List FieldIn
fields_of scope (structure s) = cond (is_external s) [] (flat_map (field_of scope) s.members)
fields_of scope _ = []

abbrev pub fields_within : List Tree → Scope → List FieldIn
fields_within trees scope = flat_map (fields_of scope) (declared_in trees scope)

abbrev pub all_fields : List Tree → List FieldIn
all_fields trees = flat_map (fields_within trees) (wide_scopes trees)

abbrev pub may_be_field : Nature → Bool
may_be_field number = true
may_be_field boolean = true
may_be_field address = true
may_be_field enumeration = true
may_be_field other_value = true
may_be_field structure_nature = false
may_be_field table = false
may_be_field nothing = false

abbrev pub field_type : List Tree → FieldIn → Option KnownType
field_type trees f = type_in trees f.scope f.kind.text

abbrev pub no_field_type : Span → Broken
no_field_type place = record { rule = NoFieldType; machine = 0; place = place; other = None }

abbrev pub refused_for : Span → Option KnownType → List Broken
refused_for place None = []
refused_for place (Some t) = cond (may_be_field (nature_in t)) [] (no_field_type place ∷ [])

abbrev pub refused_field : List Tree → FieldIn → List Broken
refused_field trees f = refused_for f.kind.span (field_type trees f)

abbrev pub refused_field_types : List Tree → List Broken
refused_field_types trees = flat_map (refused_field trees) (all_fields trees)
