-- The parts of what expressions and statements have lists of.
use Rattle.std.specs.Prelude.{ℕ, zero, suc, Option, None, List, [], ◌∷◌, ◌++◌, flat_map}
use Rattle.slicc_ast.specs.declared.tree.span.Span.{Span}
use Rattle.slicc_ast.specs.declared.tree.expression.Operand.{Operand}
use Rattle.slicc_ast.specs.declared.tree.expression.Suffix.{Suffix}
use Rattle.slicc_ast.specs.declared.tree.statement.ElseIf.{ElseIf}
use Rattle.slicc_plan.specs.declared.part.Part.{Part}
use Rattle.slicc_plan.specs.declared.part.Part.TheVariants.{Plain}
use Rattle.slicc_plan.specs.Prelude.{Names, block_parts, expr_parts, suffix_parts}

-- an operator and its operand
abbrev pub operand_parts : Names → Operand → List Part
operand_parts names o = Plain ∷ expr_parts names o.value

-- of suffixes the first alone may be behind a name
abbrev pub suffix_list_parts : Names → Option (List ℕ) → Span → List Suffix → List Part
suffix_list_parts names receiver place [] = []
suffix_list_parts names receiver place (first ∷ others) =
    suffix_parts names receiver place first ++ flat_map (suffix_parts names None place) others

-- the name that the suffix of this number is behind
abbrev pub receiver_at : Option (List ℕ) → ℕ → Option (List ℕ)
receiver_at receiver zero = receiver
receiver_at receiver (suc number) = None

-- `else if ( expr ) block`
abbrev pub else_if_parts : Names → ElseIf → List Part
else_if_parts names e = expr_parts names e.condition ++ block_parts names e.then
