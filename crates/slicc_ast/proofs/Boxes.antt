-- An expression with another one in a box, as a program makes it, is what the pattern says.
use Rattle.std.specs.Prelude.{◌≡◌, refl, ℕ, Option, List}
use Rattle.slicc_ast.specs.Prelude.{Operation', Not', Negate', Postfix', IsValid', IsInvalid', Cast', Group'}
use Rattle.slicc_ast.specs.declared.tree.expression.Expr.TheBlock as block
use Rattle.slicc_ast.specs.declared.tree.expression.Expr.TheViews as views
use Rattle.slicc_ast.specs.declared.tree.span.Span.{Span}
use Rattle.slicc_ast.specs.declared.tree.name.TypeName.{TypeName}
use Rattle.slicc_ast.specs.declared.tree.expression.Expr.{Expr}
use Rattle.slicc_ast.specs.declared.tree.expression.Operand.{Operand}
use Rattle.slicc_ast.specs.declared.tree.expression.Suffix.{Suffix}

pub Not_is : (e : Expr) (span : Span) → views.Not e span ≡ Not' e span
unfolding block.hidden-the_row-Expr-0 denote.Hole.Carrier.hidden
Not_is e span = refl

pub Negate_is : (e : Expr) (span : Span) → views.Negate e span ≡ Negate' e span
unfolding block.hidden-the_row-Expr-0 denote.Hole.Carrier.hidden
Negate_is e span = refl

pub IsValid_is : (e : Expr) (span : Span) → views.IsValid e span ≡ IsValid' e span
unfolding block.hidden-the_row-Expr-0 denote.Hole.Carrier.hidden
IsValid_is e span = refl

pub IsInvalid_is : (e : Expr) (span : Span) → views.IsInvalid e span ≡ IsInvalid' e span
unfolding block.hidden-the_row-Expr-0 denote.Hole.Carrier.hidden
IsInvalid_is e span = refl

pub Group_is : (e : Expr) (span : Span) → views.Group e span ≡ Group' e span
unfolding block.hidden-the_row-Expr-0 denote.Hole.Carrier.hidden
Group_is e span = refl

pub Cast_is : (target : TypeName) (mode : Option (List ℕ)) (e : Expr) (span : Span) → views.Cast target mode e span ≡ Cast' target mode e span
unfolding block.hidden-the_row-Expr-0 denote.Hole.Carrier.hidden
Cast_is target mode e span = refl

pub Operation_is : (e : Expr) (others : List Operand) (span : Span) → views.Operation e others span ≡ Operation' e (block.shape-the_row-Operand-1 others) (block.hidden-the_row-Operand-1 others) span
unfolding block.hidden-the_row-Expr-0 denote.Hole.Carrier.hidden
Operation_is e others span = refl

pub Postfix_is : (e : Expr) (suffixes : List Suffix) (span : Span) → views.Postfix e suffixes span ≡ Postfix' e (block.shape-the_row-Suffix-2 suffixes) (block.hidden-the_row-Suffix-2 suffixes) span
unfolding block.hidden-the_row-Expr-0 denote.Hole.Carrier.hidden
Postfix_is e suffixes span = refl
