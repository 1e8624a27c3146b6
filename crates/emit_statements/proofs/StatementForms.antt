-- The code of the rows of a tree is that of their items, one after another; and that of statements with a block, as a program makes them.
use Rattle.std.proofs.Common.{rules, ◌≡◌, Option, None, Some, List, ◌∷◌, refl, sym, ap, ◌∙◌}
use Rattle.slicc_ast.specs.declared.tree.declaration.Pairs.{Pairs}
use Rattle.slicc_ast.specs.declared.tree.expression.Expr.{Expr}
use Rattle.slicc_ast.specs.declared.tree.name.Name.{Name}
use Rattle.slicc_ast.specs.declared.tree.name.TypeName.{TypeName}
use Rattle.slicc_ast.specs.declared.tree.span.Span.{Span}
use Rattle.slicc_ast.specs.declared.tree.statement.Block.{Block}
use Rattle.slicc_ast.specs.declared.tree.statement.ElseIf.{ElseIf}
use Rattle.slicc_ast.specs.declared.tree.statement.If.{If, If', None', Some', Row_of-ElseIf, end_of-ElseIf, more_of-ElseIf, items-the_row-ElseIf, out-If}
use Rattle.slicc_ast.specs.declared.tree.statement.Stmt.{Stmt, Row_of-Stmt, end_of-Stmt, more_of-Stmt, items-the_row-Stmt}
use Rattle.slicc_ast.specs.declared.tree.statement.Stmt.TheBlock as block
use Rattle.slicc_ast.specs.declared.tree.statement.Stmt.TheViews as views
use Rattle.slicc_ast.specs.declared.tree.statement.Stmt.TheViews.{the_lemmas}
use Rattle.body_meaning.specs.Prelude.{Reading}
use Rattle.body_code.specs.declared.numbers.BodyNumbers.{BodyNumbers}
use Rattle.body_code.specs.declared.own.Own.{Own}
use Rattle.body_code.specs.Prelude.{Ending, Line, all_lines, followed_by, if_line, in_block, line, others_line, row_line}
use Rattle.body_code.specs.Statements.{chosen, enqueued, peeked}
use Rattle.emit_statements.specs.Prelude.{others_by, otherwise_by}

abbrev pub Doing : Type 0
Doing = Own → Line

pub statements_held : (statements : List Stmt) → items-the_row-Stmt _ (block.hidden-the_row-Stmt-0 statements) ≡ statements
statements_held statements = search (rules, the_lemmas)

module _ (s : Reading) (n : BodyNumbers) (ending : Ending) where
  pub lines_row : (m : _) (row : Row_of-Stmt m) → row_line s n ending row ≡ all_lines s n ending (items-the_row-Stmt m row)
  lines_row m end_of-Stmt = refl
  lines_row m (more_of-Stmt first row) = ap (λ (rest : Doing). λ (own : Own). followed_by (line s n ending first own) rest) (lines_row _ row)

  lines_hidden : (statements : List Stmt) → row_line s n ending (block.hidden-the_row-Stmt-0 statements) ≡ all_lines s n ending statements
  lines_hidden statements = lines_row _ (block.hidden-the_row-Stmt-0 statements) ∙ ap (all_lines s n ending) (statements_held statements)

  pub others_row : (otherwise : Option Doing) (m : _) (row : Row_of-ElseIf m) → others_line s n ending otherwise row ≡ others_by s n ending otherwise (items-the_row-ElseIf m row)
  others_row otherwise m end_of-ElseIf = refl
  others_row otherwise m (more_of-ElseIf condition shape inner block more) =
      let e : ElseIf = record { condition = condition; then = record { statements = items-the_row-Stmt _ inner; span = block } } in
      let whole : items-the_row-ElseIf m (more_of-ElseIf condition shape inner block more) ≡ e ∷ items-the_row-ElseIf _ more = search (rules, the_lemmas) in
      ap (λ (b : Doing). Some (chosen s n ending condition b (others_line s n ending otherwise more))) (lines_row _ inner)
      ∙ ap (λ (o : Option Doing). Some (chosen s n ending condition (all_lines s n ending (items-the_row-Stmt _ inner)) o)) (others_row otherwise _ more)
      ∙ ap (others_by s n ending otherwise) (sym whole)

  abbrev pub arms : Expr → Doing → Option Doing → Doing
  arms condition block others = chosen s n ending condition block others

  arms_are : (condition written : Expr) (block body : Doing) (others more : Option Doing) → written ≡ condition → body ≡ block → more ≡ others → arms condition block others ≡ arms written body more
  arms_are condition written block body others more p q r =
      sym (ap (λ (e : Expr). arms e body more) p ∙ ap (λ (b : Doing). arms condition b more) q ∙ ap (λ (b : Option Doing). arms condition block b) r)

  pub if_is : (i : If) → if_line s n ending i ≡ arms (out-If i).condition (all_lines s n ending (out-If i).then.statements) (others_by s n ending (otherwise_by s n ending (out-If i).otherwise) (out-If i).others)
  if_is (If' condition shape row block m others None' span) =
      let i : If = If' condition shape row block m others None' span in
      let none : Option Doing = None in
      let one : (out-If i).condition ≡ condition = search (rules, the_lemmas) in
      let two : (out-If i).then.statements ≡ items-the_row-Stmt _ row = search (rules, the_lemmas) in
      let three : (out-If i).otherwise ≡ None = search (rules, the_lemmas) in
      let four : (out-If i).others ≡ items-the_row-ElseIf _ others = search (rules, the_lemmas) in
      arms_are condition (out-If i).condition (row_line s n ending row) (all_lines s n ending (out-If i).then.statements) (others_line s n ending none others) _
      one
      (ap (all_lines s n ending) two ∙ sym (lines_row _ row))
      (ap (λ (o : Option Block). others_by s n ending (otherwise_by s n ending o) (out-If i).others) three ∙ ap (others_by s n ending none) four ∙ sym (others_row none _ others))
  if_is (If' condition shape row block m others (Some' k r b) span) =
      let i : If = If' condition shape row block m others (Some' k r b) span in
      let last : Block = record { statements = items-the_row-Stmt _ r; span = b } in
      let otherwise : Option Doing = Some (in_block (row_line s n ending r)) in
      let one : (out-If i).condition ≡ condition = search (rules, the_lemmas) in
      let two : (out-If i).then.statements ≡ items-the_row-Stmt _ row = search (rules, the_lemmas) in
      let three : (out-If i).otherwise ≡ Some last = search (rules, the_lemmas) in
      let four : (out-If i).others ≡ items-the_row-ElseIf _ others = search (rules, the_lemmas) in
      let held : otherwise_by s n ending (Some last) ≡ otherwise = ap (λ (d : Doing). Some (in_block d)) (sym (lines_row _ r)) in
      arms_are condition (out-If i).condition (row_line s n ending row) (all_lines s n ending (out-If i).then.statements) (others_line s n ending otherwise others) _
      one
      (ap (all_lines s n ending) two ∙ sym (lines_row _ row))
      (ap (λ (o : Option Block). others_by s n ending (otherwise_by s n ending o) (out-If i).others) three ∙ ap (λ (d : Option Doing). others_by s n ending d (out-If i).others) held
      ∙ ap (others_by s n ending otherwise) four ∙ sym (others_row otherwise _ others))

  pub line_of_Peek : (port : Name) (message : TypeName) (pairs : Pairs) (body : Block) (span : Span)
      → line s n ending (views.Peek port message pairs body span) ≡ peeked s n ending port.text (all_lines s n ending body.statements)
  line_of_Peek port message pairs body span = ap (λ (d : Doing). λ (own : Own). peeked s n ending port.text d own) (lines_hidden body.statements)

  pub line_of_Enqueue : (port : Name) (message : TypeName) (latency : Option Expr) (body : Block) (span : Span)
      → line s n ending (views.Enqueue port message latency body span) ≡ enqueued s n ending port.text latency (all_lines s n ending body.statements)
  line_of_Enqueue port message latency body span = ap (λ (d : Doing). λ (own : Own). enqueued s n ending port.text latency d own) (lines_hidden body.statements)
