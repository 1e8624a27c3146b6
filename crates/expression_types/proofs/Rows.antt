-- Operands, suffixes and arguments as lists, and what is told of an expression that starts with another.
use Rattle.std.proofs.Common.{◌≡◌, ◌∙◌, List, [], ◌∷◌, refl, ap}
use Rattle.slicc_ast.specs.declared.tree.span.Span.{Span}
use Rattle.slicc_ast.specs.declared.tree.expression.Expr.{Row_of-Expr, end_of-Expr, more_of-Expr, items-the_row-Expr, Row_of-Operand, end_of-Operand, more_of-Operand, items-the_row-Operand, Row_of-Suffix, end_of-Suffix, more_of-Suffix, items-the_row-Suffix}
use Rattle.slicc_ast.specs.declared.tree.expression.Operand.{Operand}
use Rattle.slicc_ast.specs.declared.tree.expression.Suffix.{Suffix, Field, Method', Index}
use Rattle.slicc_plan.specs.Prelude.{Typed, Environment, arguments_typed, given_at, joined, operands_typed, span_of, suffix_typed, suffixes_typed, typed}
use Rattle.body_types.specs.Prelude.{found_of}
use Rattle.expression_types.specs.Prelude.{known, all_arguments, all_operands, all_suffixes}
use Rattle.expression_types.proofs.Calls.{index_known_on, method_known_on}
use Rattle.expression_types.proofs.Known.{by_known, field_known, joined_left}

pub operands_of_row : (env : Environment) (at : Span) (left : Typed) (n : _) (row : Row_of-Operand n) → operands_typed env at left row ≡ all_operands env at left (items-the_row-Operand n row)
operands_of_row env at left n end_of-Operand = refl
operands_of_row env at left n (more_of-Operand operator value row) =
    operands_of_row env at (joined env operator (given_at at left) (given_at (span_of value) (typed env value))) _ row

pub suffixes_of_row : (env : Environment) (at : Span) (left : Typed) (n : _) (row : Row_of-Suffix n) → suffixes_typed env at left row ≡ all_suffixes env at left (items-the_row-Suffix n row)
suffixes_of_row env at left n end_of-Suffix = refl
suffixes_of_row env at left n (more_of-Suffix first row) = suffixes_of_row env at (suffix_typed env at left first) _ row

pub arguments_of_row : (env : Environment) (n : _) (row : Row_of-Expr n) → arguments_typed env row ≡ all_arguments env (items-the_row-Expr n row)
arguments_of_row env n end_of-Expr = refl
arguments_of_row env n (more_of-Expr first row) =
    ap (λ gs. given_at (span_of first) (typed env first) ∷ gs) (arguments_of_row env _ row)

pub suffix_known : (env : Environment) (at : Span) (s : Suffix) (t : Typed) → found_of (suffix_typed env at t s) ≡ found_of (suffix_typed env at (known t) s)
suffix_known env at (Field n span) t = field_known env t.broken n t.meaning
suffix_known env at (Method' called shape row arguments span) t = method_known_on env at called (arguments_typed env row) t
suffix_known env at (Index key span) t = index_known_on env at (given_at (span_of key) (typed env key)) t

pub operands_same : (env : Environment) (at : Span) (os : List Operand) (x y : Typed) → found_of x ≡ found_of y → found_of (all_operands env at x os) ≡ found_of (all_operands env at y os)
operands_same env at [] x y h = h
operands_same env at (o ∷ os) x y h =
    let right = given_at (span_of o.value) (typed env o.value) in
    operands_same env at os (joined env o.operator (given_at at x) right) (joined env o.operator (given_at at y) right)
    (by_known (λ t. found_of (joined env o.operator (given_at at t) right)) (joined_left env o.operator at right) x y h)

pub suffixes_same : (env : Environment) (at : Span) (ss : List Suffix) (x y : Typed) → found_of x ≡ found_of y → found_of (all_suffixes env at x ss) ≡ found_of (all_suffixes env at y ss)
suffixes_same env at [] x y h = h
suffixes_same env at (s ∷ ss) x y h =
    suffixes_same env at ss (suffix_typed env at x s) (suffix_typed env at y s)
    (by_known (λ t. found_of (suffix_typed env at t s)) (suffix_known env at s) x y h)
