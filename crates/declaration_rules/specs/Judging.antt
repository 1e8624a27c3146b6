-- What is broken by the declarations of a scope, where each of them is judged alone.
use Rattle.std.specs.Prelude.{List, flat_map}
use Rattle.slicc_ast.specs.declared.tree.item.Tree.{Tree}
use Rattle.slicc_plan.specs.declared.broken.Broken.{Broken}
use Rattle.slicc_plan.specs.Prelude.{Declaration, Scope, declared_in, machine_names, FieldIn, field_type, fields_of, refused_field, TypeUse, unknown_use, uses_in, bad_field_default}

abbrev pub broken_in : (List Tree → Scope → Declaration → List Broken) → List Tree → Scope → List Broken
broken_in broken_of trees scope = flat_map (broken_of trees scope) (declared_in trees scope)

abbrev pub unknown_uses : List Tree → Scope → List TypeUse → List Broken
unknown_uses trees scope uses = flat_map (unknown_use trees scope) uses

abbrev pub unknown_of : List Tree → Scope → Declaration → List Broken
unknown_of trees scope d = unknown_uses trees scope (uses_in d)

abbrev pub refused_of : List Tree → Scope → Declaration → List Broken
refused_of trees scope d = flat_map (refused_field trees) (fields_of scope d)

-- what the default of a field breaks
abbrev pub field_default : List Tree → FieldIn → List Broken
field_default trees f = bad_field_default (machine_names trees) f (field_type trees f)

abbrev pub field_defaults_of : List Tree → Scope → Declaration → List Broken
field_defaults_of trees scope d = flat_map (field_default trees) (fields_of scope d)
