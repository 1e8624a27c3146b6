-- The code of an expression that has another one in a box, or arguments in a row: at each form, as a program makes it.
use Rattle.std.proofs.Common.{rules, ◌≡◌, ◌∙◌, ℕ, List, [], ◌∷◌, Option, None, ap, length}
use Rattle.slicc_ast.specs.declared.tree.span.Span.{Span}
use Rattle.slicc_ast.specs.declared.tree.name.Name.{Name}
use Rattle.slicc_ast.specs.declared.tree.name.TypeName.{TypeName}
use Rattle.slicc_ast.specs.declared.tree.expression.Args.{Args}
use Rattle.slicc_ast.specs.declared.tree.expression.Expr.{Expr, items-the_row-Operand, items-the_row-Suffix}
use Rattle.slicc_ast.specs.declared.tree.expression.Operand.{Operand}
use Rattle.slicc_ast.specs.declared.tree.expression.Suffix.{Suffix, Method}
use Rattle.slicc_ast.specs.declared.tree.expression.Expr.TheBlock as block
use Rattle.slicc_ast.specs.declared.tree.expression.Expr.TheViews as views
use Rattle.slicc_ast.specs.declared.tree.expression.Expr.TheViews.{the_lemmas}
use Rattle.slicc_ast.proofs.Boxes.{Operation_is, Postfix_is, Cast_is, Group_is}
use Rattle.ruby_value.specs.declared.kind.Kind.{Kind}
use Rattle.body_meaning.specs.Prelude.{Reading}
use Rattle.body_code.specs.declared.left.Left.{Left}
use Rattle.body_code.specs.declared.left.NameAt.{NameAt}
use Rattle.body_code.specs.declared.numbers.BodyNumbers.{BodyNumbers}
use Rattle.body_code.specs.Prelude.{Piece, after, arguments_by, entry_kind, formals_of, kind_written, method_call, piece, suffixed, suffixed_by, then}
use Rattle.emit_expressions.specs.Parts.{called as call_code, operands_by}
use Rattle.emit_expressions.proofs.Rows.{arguments_of_row, operands_of_row, suffixes_of_row}

operands_held : (others : List Operand) → items-the_row-Operand _ (block.hidden-the_row-Operand-1 others) ≡ others
operands_held others = search (rules, the_lemmas)

pub suffixes_held : (suffixes : List Suffix) → items-the_row-Suffix _ (block.hidden-the_row-Suffix-2 suffixes) ≡ suffixes
suffixes_held suffixes = search (rules, the_lemmas)

module _ (s : Reading) (n : BodyNumbers) (names : List NameAt) where
  pub piece_of_Operation : (expected : Option Kind) (e : Expr) (others : List Operand) (span : Span)
      → piece s n names expected (views.Operation e others span) ≡ then (piece s n names None e) (λ l. operands_by s n names l others)
  piece_of_Operation expected e others span =
      let l : Left = (piece s n names None e).left in
      ap (piece s n names expected) (Operation_is e others span)
      ∙ ap (λ (p : Piece). after (piece s n names None e).code p)
      (operands_of_row s n names l _ (block.hidden-the_row-Operand-1 others) ∙ ap (operands_by s n names l) (operands_held others))

  pub piece_of_Postfix : (expected : Option Kind) (e : Expr) (suffixes : List Suffix) (span : Span)
      → piece s n names expected (views.Postfix e suffixes span) ≡ then (piece s n names None e) (λ l. suffixed_by s n names l suffixes)
  piece_of_Postfix expected e suffixes span =
      let l : Left = (piece s n names None e).left in
      ap (piece s n names expected) (Postfix_is e suffixes span)
      ∙ ap (λ (p : Piece). after (piece s n names None e).code p)
      (suffixes_of_row s n names l _ (block.hidden-the_row-Suffix-2 suffixes) ∙ ap (suffixed_by s n names l) (suffixes_held suffixes))

  pub piece_of_Cast : (expected : Option Kind) (target : TypeName) (mode : Option (List ℕ)) (e : Expr) (span : Span)
      → piece s n names expected (views.Cast target mode e span) ≡ piece s n names (kind_written s target.text) e
  piece_of_Cast expected target mode e span = ap (piece s n names expected) (Cast_is target mode e span)

  pub piece_of_Group : (expected : Option Kind) (e : Expr) (span : Span) → piece s n names expected (views.Group e span) ≡ piece s n names expected e
  piece_of_Group expected e span = ap (piece s n names expected) (Group_is e span)

  pub piece_of_Call : (expected : Option Kind) (called : Name) (given : Args) (span : Span)
      → piece s n names expected (views.Call called given span) ≡ call_code s n names called.text given.items
  piece_of_Call expected called given span = search (rules, the_lemmas, arguments_of_row s n names (formals_of s called.text))

  pub suffixed_of_Method : (l : Left) (called : Name) (given : Args) (span : Span)
      → suffixed s n names l (Method called given span)
      ≡ method_call s l called.text (length given.items) (arguments_by s n names (entry_kind s ∷ []) given.items)
  suffixed_of_Method l called given span = search (rules, the_lemmas, arguments_of_row s n names (entry_kind s ∷ []))
