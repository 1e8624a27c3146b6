-- What an expression is, as the code's patterns say it.
use Rattle.std.proofs.Common.{ℤ, ℕ, Option, List, sym, subst}
use Rattle.slicc_ast.specs.declared.tree.span.Span.{Span}
use Rattle.slicc_ast.specs.declared.tree.name.Name.{Name}
use Rattle.slicc_ast.specs.declared.tree.name.TypeName.{TypeName}
use Rattle.slicc_ast.specs.declared.tree.expression.Args.{Args}
use Rattle.slicc_ast.specs.declared.tree.expression.Expr.{Expr}
use Rattle.slicc_ast.specs.declared.tree.expression.Expr as made
use Rattle.slicc_ast.specs.declared.tree.expression.Expr.TheOpen as layer
use Rattle.slicc_ast.specs.declared.tree.expression.Expr.TheViews as views
use Rattle.slicc_ast.specs.declared.tree.expression.Operand.{Operand}
use Rattle.slicc_ast.specs.declared.tree.expression.Suffix.{Suffix}

pub data ExprIs : Expr → Type 0 where
  is_Operation : (e : Expr) (xs : List Operand) (s : Span) → ExprIs (made.Operation e xs s)
  is_Postfix : (e : Expr) (xs : List Suffix) (s : Span) → ExprIs (made.Postfix e xs s)
  is_Not : (e : Expr) (s : Span) → ExprIs (made.Not e s)
  is_Negate : (e : Expr) (s : Span) → ExprIs (made.Negate e s)
  is_Number : (n : ℤ) (s : Span) → ExprIs (made.Number n s)
  is_True : (s : Span) → ExprIs (made.True s)
  is_False : (s : Span) → ExprIs (made.False s)
  is_Nothing : (s : Span) → ExprIs (made.Nothing s)
  is_Variable : (n : Name) → ExprIs (made.Variable n)
  is_Member : (n : Name) (m : Name) (s : Span) → ExprIs (made.Member n m s)
  is_Call : (n : Name) (xs : Args) (s : Span) → ExprIs (made.Call n xs s)
  is_New : (n : Name) (s : Span) → ExprIs (made.New n s)
  is_IsValid : (e : Expr) (s : Span) → ExprIs (made.IsValid e s)
  is_IsInvalid : (e : Expr) (s : Span) → ExprIs (made.IsInvalid e s)
  is_Cast : (k : TypeName) (m : Option (List ℕ)) (e : Expr) (s : Span) → ExprIs (made.Cast k m e s)
  is_Group : (e : Expr) (s : Span) → ExprIs (made.Group e s)

of_layer : (v : _) → ExprIs (views.roll-Expr v)
of_layer (layer.Operation e xs s) = let it : ExprIs (made.Operation e xs s) = is_Operation e xs s in subst ExprIs (sym (views.rolls-Operation e xs s)) it
of_layer (layer.Postfix e xs s) = let it : ExprIs (made.Postfix e xs s) = is_Postfix e xs s in subst ExprIs (sym (views.rolls-Postfix e xs s)) it
of_layer (layer.Not e s) = let it : ExprIs (made.Not e s) = is_Not e s in subst ExprIs (sym (views.rolls-Not e s)) it
of_layer (layer.Negate e s) = let it : ExprIs (made.Negate e s) = is_Negate e s in subst ExprIs (sym (views.rolls-Negate e s)) it
of_layer (layer.Number n s) = let it : ExprIs (made.Number n s) = is_Number n s in subst ExprIs (sym (views.rolls-Number n s)) it
of_layer (layer.True s) = let it : ExprIs (made.True s) = is_True s in subst ExprIs (sym (views.rolls-True s)) it
of_layer (layer.False s) = let it : ExprIs (made.False s) = is_False s in subst ExprIs (sym (views.rolls-False s)) it
of_layer (layer.Nothing s) = let it : ExprIs (made.Nothing s) = is_Nothing s in subst ExprIs (sym (views.rolls-Nothing s)) it
of_layer (layer.Variable n) = let it : ExprIs (made.Variable n) = is_Variable n in subst ExprIs (sym (views.rolls-Variable n)) it
of_layer (layer.Member n m s) = let it : ExprIs (made.Member n m s) = is_Member n m s in subst ExprIs (sym (views.rolls-Member n m s)) it
of_layer (layer.Call n xs s) = let it : ExprIs (made.Call n xs s) = is_Call n xs s in subst ExprIs (sym (views.rolls-Call n xs s)) it
of_layer (layer.New n s) = let it : ExprIs (made.New n s) = is_New n s in subst ExprIs (sym (views.rolls-New n s)) it
of_layer (layer.IsValid e s) = let it : ExprIs (made.IsValid e s) = is_IsValid e s in subst ExprIs (sym (views.rolls-IsValid e s)) it
of_layer (layer.IsInvalid e s) = let it : ExprIs (made.IsInvalid e s) = is_IsInvalid e s in subst ExprIs (sym (views.rolls-IsInvalid e s)) it
of_layer (layer.Cast k m e s) = let it : ExprIs (made.Cast k m e s) = is_Cast k m e s in subst ExprIs (sym (views.rolls-Cast k m e s)) it
of_layer (layer.Group e s) = let it : ExprIs (made.Group e s) = is_Group e s in subst ExprIs (sym (views.rolls-Group e s)) it

pub expr_is : (b : Expr) → ExprIs b
expr_is b = subst ExprIs (views.roll-out-Expr b) (of_layer (views.out-Expr b))
