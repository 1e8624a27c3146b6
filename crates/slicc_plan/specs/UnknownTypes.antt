-- A type's name isn't known in its scope. That is told of the names of types outside of bodies: of parameters, objects and
-- fields, of what a function answers and takes, of the messages of a port, and of what a state's permission belongs to. They
-- may be declared later in the text. `AbstractCacheEntry` is known in the formals of a prototype alone.
use Rattle.std.specs.Prelude.{ℕ, Bool, true, false, not, is_none, cond, Option, None, Some, List, [], ◌∷◌, flat_map, map}
use Rattle.slicc_ast.specs.declared.tree.span.Span.{Span}
use Rattle.slicc_ast.specs.declared.tree.name.TypeName.{TypeName}
use Rattle.slicc_ast.specs.declared.tree.item.Tree.{Tree}
use Rattle.slicc_ast.specs.declared.tree.statement.Block.{Block}
use Rattle.slicc_ast.specs.declared.tree.declaration.Formal.{Formal}
use Rattle.slicc_ast.specs.declared.tree.declaration.Formals.{Formals}
use Rattle.slicc_ast.specs.declared.tree.declaration.Function.{Function}
use Rattle.slicc_ast.specs.declared.tree.declaration.Function.TheVariants.{Plain, Skipped}
use Rattle.slicc_ast.specs.declared.tree.declaration.Member.{Member}
use Rattle.slicc_ast.specs.declared.tree.declaration.Member.TheVariants.{Field, Method, Skipped as SkippedMember}
use Rattle.slicc_ast.specs.declared.tree.declaration.State.{State}
use Rattle.slicc_plan.specs.declared.broken.Broken.{Broken}
use Rattle.slicc_plan.specs.declared.broken.Rule.TheVariants.{UnknownType}
use Rattle.slicc_plan.specs.declared.built_in.BuiltInType.TheVariants.{AbstractEntry}
use Rattle.slicc_plan.specs.Declarations.{Declaration, structure, states, parameter, object, out_port, in_port, function, Scope, declared_in, is_external, wide_scopes}
use Rattle.slicc_plan.specs.Types.{KnownType, is_built_in, type_in}

-- where a type's name is used
pub record TypeUse : Type 0 where
  pub text : List ℕ
  pub place : Span
  -- it is a formal's, of a prototype
  pub is_of_prototype : Bool

abbrev pub use_of : TypeName → TypeUse
use_of t = record { text = t.text; place = t.span; is_of_prototype = false }

abbrev pub formal_use : Bool → Formal → TypeUse
formal_use is_of_prototype f = record { text = f.kind.text; place = f.kind.span; is_of_prototype = is_of_prototype }

abbrev pub formal_uses : Bool → Formals → List TypeUse
formal_uses is_of_prototype fs = map (formal_use is_of_prototype) fs.items

abbrev pub state_use : State → TypeUse
state_use s = record { text = s.owner.text; place = s.owner.span; is_of_prototype = false }

abbrev pub member_uses : Member → List TypeUse
member_uses (Field kind called attributes span) = use_of kind ∷ []
member_uses (Method kind called formals attributes span) = use_of kind ∷ formal_uses true formals
member_uses (SkippedMember s) = use_of s.kind ∷ []

abbrev pub has_no_body : Option Block → Bool
has_no_body body = is_none body

abbrev pub function_uses : Function → List TypeUse
function_uses (Plain kind called formals attributes body span) =
    use_of kind ∷ formal_uses (has_no_body body) formals
function_uses (Skipped s) = use_of s.kind ∷ []

abbrev pub uses_in : Declaration → List TypeUse
uses_in (structure s) = cond (is_external s) [] (flat_map member_uses s.members)
uses_in (states s) = map state_use s.members
uses_in (parameter p) = use_of p.kind ∷ []
uses_in (object o) = use_of o.kind ∷ []
uses_in (out_port p) = use_of p.message ∷ []
uses_in (in_port p) = use_of p.message ∷ []
uses_in (function f) = function_uses f
uses_in _ = []

-- it is of a type that isn't known there
abbrev pub is_unknown : TypeUse → Option KnownType → Bool
is_unknown u None = true
is_unknown u (Some t) = cond (is_built_in AbstractEntry (Some t)) (not u.is_of_prototype) false

abbrev pub unknown_type : Span → Broken
unknown_type place = record { rule = UnknownType; machine = 0; place = place; other = None }

abbrev pub unknown_use : List Tree → Scope → TypeUse → List Broken
unknown_use trees scope u = cond (is_unknown u (type_in trees scope u.text)) (unknown_type u.place ∷ []) []

abbrev pub unknown_in : List Tree → Scope → List Broken
unknown_in trees scope = flat_map (unknown_use trees scope) (flat_map uses_in (declared_in trees scope))

abbrev pub unknown_types : List Tree → List Broken
unknown_types trees = flat_map (unknown_in trees) (wide_scopes trees)
