-- A prototype or an external structure bears no built-in name. That is told at the declaration. A prototype is a function
-- without a body, or one of a structure that isn't external; the name of any built-in call will do. An external structure
-- bears the name of a built-in table.
use Rattle.std.specs.Prelude.{ℕ, Bool, true, false, is_some, cond, None, Some, List, [], ◌∷◌, flat_map}
use Rattle.slicc_ast.specs.declared.tree.span.Span.{Span}
use Rattle.slicc_ast.specs.declared.tree.item.Tree.{Tree}
use Rattle.slicc_ast.specs.declared.tree.declaration.Function.{Function}
use Rattle.slicc_ast.specs.declared.tree.declaration.Function.TheVariants.{Plain, Skipped}
use Rattle.slicc_ast.specs.declared.tree.declaration.Member.{Member}
use Rattle.slicc_ast.specs.declared.tree.declaration.Member.TheVariants.{Field, Method, Skipped as SkippedMember}
use Rattle.slicc_ast.specs.declared.tree.declaration.Structure.{Structure}
use Rattle.slicc_plan.specs.declared.broken.Broken.{Broken}
use Rattle.slicc_plan.specs.declared.broken.Rule.TheVariants.{NotBuiltIn}
use Rattle.slicc_plan.specs.BuiltInCalls.{is_call}
use Rattle.slicc_plan.specs.Declarations.{Declaration, structure, function, Scope, declared_in, is_external, machine_names, wide_scopes}
use Rattle.slicc_plan.specs.Types.{table_named}

abbrev pub not_built_in : Span → Broken
not_built_in place = record { rule = NotBuiltIn; machine = 0; place = place; other = None }

abbrev pub told_unless : Bool → Span → List Broken
told_unless is_right place = cond is_right [] (not_built_in place ∷ [])

-- in a protocol with machines of these names

abbrev pub unknown_prototype : List (List ℕ) → Function → List Broken
unknown_prototype machines (Plain kind called formals attributes None span) =
    told_unless (is_call machines called.text) span
unknown_prototype machines (Plain kind called formals attributes (Some body) span) = []
unknown_prototype machines (Skipped s) = []

abbrev pub unknown_method : List (List ℕ) → Member → List Broken
unknown_method machines (Field kind called attributes span) = []
unknown_method machines (Method kind called formals attributes span) = told_unless (is_call machines called.text) span
unknown_method machines (SkippedMember s) = []

abbrev pub unknown_structure : List (List ℕ) → Structure → Bool → List Broken
unknown_structure machines s true = told_unless (is_some (table_named s.name.text)) s.span
unknown_structure machines s false = flat_map (unknown_method machines) s.members

abbrev pub unknown_built_in : List (List ℕ) → Declaration → List Broken
unknown_built_in machines (structure s) = unknown_structure machines s (is_external s)
unknown_built_in machines (function f) = unknown_prototype machines f
unknown_built_in machines _ = []

abbrev pub unknown_built_ins_in : List Tree → Scope → List Broken
unknown_built_ins_in trees scope = flat_map (unknown_built_in (machine_names trees)) (declared_in trees scope)

abbrev pub unknown_built_ins : List Tree → List Broken
unknown_built_ins trees = flat_map (unknown_built_ins_in trees) (wide_scopes trees)
