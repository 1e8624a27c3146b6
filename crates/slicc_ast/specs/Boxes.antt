-- Expressions that have another one in a box, as patterns over the expression itself. A boxed part is kept as a row of one
-- part, and a list of operands or suffixes as its length with a row of as many; these patterns name what stands in the row.
-- That an expression that a program makes is the pattern of its parts is proved (proofs/Boxes.antt).
use Rattle.std.specs.Prelude.{⊤, ℕ, Option, List}
use mathlib.Core.Former.{this, arity}
use Rattle.ruby_base.specs.formers.seq.Seq as seq
use Rattle.slicc_ast.specs.declared.tree.span.Span.{Span}
use Rattle.slicc_ast.specs.declared.tree.name.TypeName.{TypeName}
use Rattle.slicc_ast.specs.declared.tree.expression.Expr.{Expr, Row_of-Expr, end_of-Expr, more_of-Expr, Row_of-Operand, Row_of-Suffix}
use Rattle.slicc_ast.specs.declared.tree.expression.Expr as made
use Rattle.slicc_ast.specs.declared.tree.expression.Operand.{Operand}
use Rattle.slicc_ast.specs.declared.tree.expression.Suffix.{Suffix}

-- operands with operators of one level between them
pattern abbrev pub Operation' : Expr → (n : List ⊤) → Row_of-Operand (arity (seq.the_former this) n) → Span → Expr
Operation' first n others span = made.Operation' tt (more_of-Expr first end_of-Expr) n others span

pattern abbrev pub Postfix' : Expr → (n : List ⊤) → Row_of-Suffix (arity (seq.the_former this) n) → Span → Expr
Postfix' value n suffixes span = made.Postfix' tt (more_of-Expr value end_of-Expr) n suffixes span

pattern abbrev pub Not' : Expr → Span → Expr
Not' operand span = made.Not' tt (more_of-Expr operand end_of-Expr) span

pattern abbrev pub Negate' : Expr → Span → Expr
Negate' operand span = made.Negate' tt (more_of-Expr operand end_of-Expr) span

pattern abbrev pub IsValid' : Expr → Span → Expr
IsValid' value span = made.IsValid' tt (more_of-Expr value end_of-Expr) span

pattern abbrev pub IsInvalid' : Expr → Span → Expr
IsInvalid' value span = made.IsInvalid' tt (more_of-Expr value end_of-Expr) span

pattern abbrev pub Cast' : TypeName → Option (List ℕ) → Expr → Span → Expr
Cast' target mode value span = made.Cast' target mode tt (more_of-Expr value end_of-Expr) span

pattern abbrev pub Group' : Expr → Span → Expr
Group' inner span = made.Group' tt (more_of-Expr inner end_of-Expr) span
