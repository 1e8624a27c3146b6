-- The place that an expression names, at each form that a program makes.
use Rattle.std.proofs.Common.{◌≡◌, ◌∙◌, List, Result, ap, sym, subst}
use Rattle.std.specs.Result.{IfOk}
use Rattle.slicc_ast.specs.declared.tree.span.Span.{Span}
use Rattle.slicc_ast.specs.declared.tree.expression.Expr.{Expr}
use Rattle.slicc_ast.specs.declared.tree.expression.Suffix.{Suffix}
use Rattle.slicc_ast.specs.declared.tree.expression.Expr.TheViews as views
use Rattle.slicc_ast.proofs.Boxes.{Group_is, Postfix_is}
use Rattle.ruby_base.specs.declared.memory.NoMemory.{NoMemory}
use Rattle.body_meaning.specs.Prelude.{Reading}
use Rattle.body_code.specs.declared.left.NameAt.{NameAt}
use Rattle.body_code.specs.declared.numbers.BodyNumbers.{BodyNumbers}
use Rattle.body_code.specs.Prelude.{spot_behind, spot_of}
use Rattle.body_code.specs.Spots as code
use Rattle.emit_expressions.specs.declared.spots.Spot.{Spot}
use Rattle.emit_expressions.specs.Prelude.{spot_code}
use Rattle.emit_expressions.proofs.Forms.{suffixes_held}

module _ (s : Reading) (n : BodyNumbers) (names : List NameAt) where
  pub same_spot : (a b : code.Spot) (r : Result Spot NoMemory) → a ≡ b → IfOk r (λ (x : Spot). spot_code s n names x ≡ a) → IfOk r (λ (x : Spot). spot_code s n names x ≡ b)
  same_spot a b r same found = subst (λ (place : code.Spot). IfOk r (λ (x : Spot). spot_code s n names x ≡ place)) same found

  pub group_spot : (e inner got : Expr) (span : Span) → e ≡ views.Group inner span → got ≡ inner → spot_of s n names got ≡ spot_of s n names e
  group_spot e inner got span is same = ap (spot_of s n names) same ∙ sym (ap (spot_of s n names) (is ∙ Group_is inner span))

  pub postfix_spot : (e inner got : Expr) (suffixes held : List Suffix) (span : Span) → e ≡ views.Postfix inner suffixes span → got ≡ inner → held ≡ suffixes
      → spot_behind s n names got held ≡ spot_of s n names e
  postfix_spot e inner got suffixes held span is same all =
      ap (λ (x : Expr). spot_behind s n names x held) same ∙ ap (spot_behind s n names inner) (all ∙ sym (suffixes_held suffixes))
      ∙ sym (ap (spot_of s n names) (is ∙ Postfix_is inner suffixes span))
