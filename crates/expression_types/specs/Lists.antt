-- Operands, suffixes and arguments one after another, as lists.
use Rattle.std.specs.Prelude.{List, [], ◌∷◌, map}
use Rattle.slicc_ast.specs.declared.tree.span.Span.{Span}
use Rattle.slicc_ast.specs.declared.tree.expression.Expr.{Expr}
use Rattle.slicc_ast.specs.declared.tree.expression.Operand.{Operand}
use Rattle.slicc_ast.specs.declared.tree.expression.Suffix.{Suffix}
use Rattle.slicc_plan.specs.Prelude.{Given, Typed, Environment, given_at, joined, span_of, suffix_typed, typed}

abbrev pub all_operands : Environment → Span → Typed → List Operand → Typed
all_operands env at left [] = left
all_operands env at left (o ∷ os) =
    all_operands env at (joined env o.operator (given_at at left) (given_at (span_of o.value) (typed env o.value))) os

abbrev pub all_suffixes : Environment → Span → Typed → List Suffix → Typed
all_suffixes env at left [] = left
all_suffixes env at left (s ∷ ss) = all_suffixes env at (suffix_typed env at left s) ss

abbrev pub all_arguments : Environment → List Expr → List Given
all_arguments env arguments = map (λ (e : Expr). given_at (span_of e) (typed env e)) arguments
