-- What is broken in the declarations of a protocol, by all rules of declarations; and what may be answered for broken rules.
-- The order of this list is no matter: which of them is told is said by `IsFirstBroken`.
use Rattle.std.specs.Prelude.{◌≡◌, ◌++◌, Option, None, Some, List, []}
use Rattle.slicc_ast.specs.declared.tree.item.Tree.{Tree}
use Rattle.slicc_plan.specs.declared.broken.Broken.{Broken}
use Rattle.slicc_plan.specs.declared.refusal.Refusal.{Refusal}
use Rattle.slicc_plan.specs.declared.refusal.Refusal.TheVariants.{Rule, NoMemory}
use Rattle.slicc_plan.specs.FieldTypes.{refused_field_types}
use Rattle.slicc_plan.specs.Limits.{limits_passed}
use Rattle.slicc_plan.specs.Order.{IsFirstBroken, number_of}
use Rattle.slicc_plan.specs.Prototypes.{unknown_built_ins}
use Rattle.slicc_plan.specs.TwiceDeclared.{names_twice_declared}
use Rattle.slicc_plan.specs.UnknownTypes.{unknown_types}
use Rattle.slicc_plan.specs.Values.{bad_values}

abbrev pub broken_declarations : List Tree → List Broken
broken_declarations trees =
    names_twice_declared trees ++ unknown_types trees ++ limits_passed trees ++ refused_field_types trees
    ++ bad_values trees ++ unknown_built_ins trees

-- how a broken rule is told
abbrev pub refusal_of : Broken → Refusal
refusal_of b = Rule (number_of b.rule) b.place b.other

-- These broken rules may be answered with this refusal, or with none.
pub data IsAnswered (broken : List Broken) : Option Refusal → Type 0 where
  keeps_all : broken ≡ [] → IsAnswered broken None
  breaks_one : {b : Broken} → IsFirstBroken broken b → IsAnswered broken (Some (refusal_of b))
  -- memory may run out at any time
  no_memory : IsAnswered broken (Some NoMemory)
