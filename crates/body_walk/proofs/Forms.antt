-- What an expression gives that has another one in a box, or arguments in a row: the meaning at each form, as a program makes it.
use mathlib.Core.Path.{fun_ext}
use Rattle.std.proofs.Common.{rules, ◌≡◌, ◌∙◌, ℕ, List, [], Option, ap}
use Rattle.slicc_ast.specs.declared.tree.span.Span.{Span}
use Rattle.slicc_ast.specs.declared.tree.name.Name.{Name}
use Rattle.slicc_ast.specs.declared.tree.name.TypeName.{TypeName}
use Rattle.slicc_ast.specs.declared.tree.expression.Args.{Args}
use Rattle.slicc_ast.specs.declared.tree.expression.Expr.{Expr, items-the_row-Operand, items-the_row-Suffix}
use Rattle.slicc_ast.specs.declared.tree.expression.Operand.{Operand}
use Rattle.slicc_ast.specs.declared.tree.expression.Suffix.{Suffix, Method}
use Rattle.slicc_ast.specs.declared.tree.expression.Expr.TheBlock as block
use Rattle.slicc_ast.specs.declared.tree.expression.Expr.TheViews as views
use Rattle.slicc_ast.specs.declared.tree.expression.Expr.TheViews.{the_lemmas}
use Rattle.slicc_ast.proofs.Boxes.{Operation_is, Postfix_is, Not_is, Negate_is, IsValid_is, IsInvalid_is, Cast_is, Group_is}
use Rattle.ruby_value.specs.declared.value.Value.{Value}
use Rattle.acts.specs.Prelude.{Acting, ends, ◌>>=◌}
use Rattle.body_meaning.specs.declared.frame.Frame.{Frame}
use Rattle.body_meaning.specs.declared.thing.Thing.{Thing}
use Rattle.body_meaning.specs.declared.thing.Thing.TheVariants as thing
use Rattle.body_meaning.specs.Prelude.{Reading, Calls, method_call, named_call, each, names_line, names_nothing, negation_of, not_so, operand_step, suffixed, value, values_of, name_in, place_behind, place_of, value_in}
use Rattle.body_walk.proofs.Rows.{operands_of_row, suffixes_of_row, values_of_row}

operands_held : (others : List Operand) → items-the_row-Operand _ (block.hidden-the_row-Operand-1 others) ≡ others
operands_held others = search (rules, the_lemmas)

suffixes_held : (suffixes : List Suffix) → items-the_row-Suffix _ (block.hidden-the_row-Suffix-2 suffixes) ≡ suffixes
suffixes_held suffixes = search (rules, the_lemmas)

pub name_in_Group : (e : Expr) (span : Span) → name_in (views.Group e span) ≡ name_in e
name_in_Group e span = ap name_in (Group_is e span)

module _ (s : Reading) (calls : Calls) (frame : Frame) where
  pub value_of_Operation : (e : Expr) (others : List Operand) (span : Span)
      → value s calls frame (views.Operation e others span)
      ≡ value s calls frame e >>= (λ t. each (operand_step s calls frame) (value_in t) others >>= (λ v. ends (thing.Value v)))
  value_of_Operation e others span =
      ap (value s calls frame) (Operation_is e others span)
      ∙ ap (λ (next : Thing → Acting Thing). value s calls frame e >>= next)
      (fun_ext (λ t. ap (λ (p : Acting Value). p >>= (λ v. ends (thing.Value v)))
      (operands_of_row s calls frame (value_in t) _ (block.hidden-the_row-Operand-1 others)
      ∙ ap (each (operand_step s calls frame) (value_in t)) (operands_held others))))

  pub value_of_Not : (e : Expr) (span : Span) → value s calls frame (views.Not e span) ≡ value s calls frame e >>= (λ t. ends (not_so t))
  value_of_Not e span = ap (value s calls frame) (Not_is e span)

  pub value_of_Negate : (e : Expr) (span : Span) → value s calls frame (views.Negate e span) ≡ value s calls frame e >>= negation_of
  value_of_Negate e span = ap (value s calls frame) (Negate_is e span)

  pub value_of_Postfix : (e : Expr) (suffixes : List Suffix) (span : Span)
      → value s calls frame (views.Postfix e suffixes span) ≡ value s calls frame e >>= (λ t. each (suffixed s calls frame) t suffixes)
  value_of_Postfix e suffixes span =
      ap (value s calls frame) (Postfix_is e suffixes span)
      ∙ ap (λ (next : Thing → Acting Thing). value s calls frame e >>= next)
      (fun_ext (λ t. suffixes_of_row s calls frame t _ (block.hidden-the_row-Suffix-2 suffixes)
      ∙ ap (each (suffixed s calls frame) t) (suffixes_held suffixes)))

  pub value_of_IsValid : (e : Expr) (span : Span) → value s calls frame (views.IsValid e span) ≡ value s calls frame e >>= (λ t. ends (names_line t))
  value_of_IsValid e span = ap (value s calls frame) (IsValid_is e span)

  pub value_of_IsInvalid : (e : Expr) (span : Span) → value s calls frame (views.IsInvalid e span) ≡ value s calls frame e >>= (λ t. ends (names_nothing t))
  value_of_IsInvalid e span = ap (value s calls frame) (IsInvalid_is e span)

  pub value_of_Cast : (target : TypeName) (mode : Option (List ℕ)) (e : Expr) (span : Span) → value s calls frame (views.Cast target mode e span) ≡ value s calls frame e
  value_of_Cast target mode e span = ap (value s calls frame) (Cast_is target mode e span)

  pub value_of_Group : (e : Expr) (span : Span) → value s calls frame (views.Group e span) ≡ value s calls frame e
  value_of_Group e span = ap (value s calls frame) (Group_is e span)

  pub value_of_Call : (called : Name) (arguments : Args) (span : Span)
      → value s calls frame (views.Call called arguments span) ≡ values_of s calls frame arguments.items >>= named_call s calls called.text
  unfolding values_of
  value_of_Call called arguments span = search (rules, the_lemmas, values_of_row s calls frame [])

  pub suffixed_of_Method : (t : Thing) (called : Name) (arguments : Args) (span : Span)
      → suffixed s calls frame t (Method called arguments span) ≡ values_of s calls frame arguments.items >>= method_call s t called.text
  unfolding values_of
  suffixed_of_Method t called arguments span = search (rules, the_lemmas, values_of_row s calls frame [])

  pub place_of_Group : (e : Expr) (span : Span) → place_of s calls frame (views.Group e span) ≡ place_of s calls frame e
  place_of_Group e span = ap (place_of s calls frame) (Group_is e span)

  pub place_of_Postfix : (e : Expr) (suffixes : List Suffix) (span : Span) → place_of s calls frame (views.Postfix e suffixes span) ≡ place_behind s calls frame e suffixes
  place_of_Postfix e suffixes span = ap (place_of s calls frame) (Postfix_is e suffixes span) ∙ ap (place_behind s calls frame e) (suffixes_held suffixes)
