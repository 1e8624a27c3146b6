-- What the rows of a tree do is what their items do, one after another.
use Rattle.std.proofs.Common.{rules, ◌≡◌, ◌⊎◌, inl, inr, Option, None, Some, List, ◌∷◌, refl, sym, ap, ◌∙◌}
use Rattle.slicc_ast.specs.declared.tree.balanced.Balanced.{Balanced}
use Rattle.slicc_ast.specs.declared.tree.declaration.Pairs.{Pairs}
use Rattle.slicc_ast.specs.declared.tree.expression.Expr.{Expr}
use Rattle.slicc_ast.specs.declared.tree.name.Name.{Name}
use Rattle.slicc_ast.specs.declared.tree.name.TypeName.{TypeName}
use Rattle.slicc_ast.specs.declared.tree.span.Span.{Span}
use Rattle.slicc_ast.specs.declared.tree.statement.Block.{Block}
use Rattle.slicc_ast.specs.declared.tree.statement.ElseIf.{ElseIf}
use Rattle.slicc_ast.specs.declared.tree.statement.If.{If, If', None', Some', Row_of-ElseIf, end_of-ElseIf, more_of-ElseIf, items-the_row-ElseIf, out-If}
use Rattle.slicc_ast.specs.declared.tree.statement.PrintWord.{PrintWord}
use Rattle.slicc_ast.specs.declared.tree.statement.Stmt.{Stmt, CheckAllocate, Print, Row_of-Stmt, end_of-Stmt, more_of-Stmt, items-the_row-Stmt}
use Rattle.slicc_ast.specs.declared.tree.statement.Stmt.TheBlock as block
use Rattle.slicc_ast.specs.declared.tree.statement.Stmt.TheViews as views
use Rattle.slicc_ast.specs.declared.tree.statement.Stmt.TheViews.{the_lemmas}
use Rattle.acts.specs.Prelude.{Acting}
use Rattle.body_meaning.specs.declared.frame.Frame.{Frame}
use Rattle.body_meaning.specs.Prelude.{Calls, Ended, Reading, all_done, block_in, chosen, enqueued, exec, goes_on, if_done, others_done, peeked, row_done, went_on}
use Rattle.statement_walk.specs.Prelude.{others_of, otherwise_of}

abbrev pub Doing : Type 0
Doing = Frame → Acting Ended

pub statements_held : (statements : List Stmt) → items-the_row-Stmt _ (block.hidden-the_row-Stmt-0 statements) ≡ statements
statements_held statements = search (rules, the_lemmas)

module _ (s : Reading) (calls : Calls) where
  pub done_row : (n : _) (row : Row_of-Stmt n) → row_done s calls row ≡ all_done s calls (items-the_row-Stmt n row)
  done_row n end_of-Stmt = refl
  done_row n (more_of-Stmt first row) = ap (λ (rest : Doing). λ (frame : Frame). goes_on (exec s calls first frame) rest) (done_row _ row)

  done_hidden : (statements : List Stmt) → row_done s calls (block.hidden-the_row-Stmt-0 statements) ≡ all_done s calls statements
  done_hidden statements = done_row _ (block.hidden-the_row-Stmt-0 statements) ∙ ap (all_done s calls) (statements_held statements)

  pub others_row : (otherwise : Doing) (n : _) (row : Row_of-ElseIf n) → others_done s calls otherwise row ≡ others_of s calls otherwise (items-the_row-ElseIf n row)
  others_row otherwise n end_of-ElseIf = refl
  others_row otherwise n (more_of-ElseIf condition shape inner block more) =
      let e : ElseIf = record { condition = condition; then = record { statements = items-the_row-Stmt _ inner; span = block } } in
      let whole : items-the_row-ElseIf n (more_of-ElseIf condition shape inner block more) ≡ e ∷ items-the_row-ElseIf _ more = search (rules, the_lemmas) in
      ap (λ (b : Doing). chosen s calls condition (block_in b) (others_done s calls otherwise more)) (done_row _ inner)
      ∙ ap (λ (b : Doing). chosen s calls condition (block_in (all_done s calls (items-the_row-Stmt _ inner))) b) (others_row otherwise _ more)
      ∙ ap (others_of s calls otherwise) (sym whole)

  abbrev pub arms : Expr → Doing → Doing → Doing
  arms condition block others = chosen s calls condition (block_in block) others

  arms_are : (condition written : Expr) (block body others more : Doing) → written ≡ condition → body ≡ block → more ≡ others → arms condition block others ≡ arms written body more
  arms_are condition written block body others more p q r =
      sym (ap (λ (e : Expr). arms e body more) p ∙ ap (λ (b : Doing). arms condition b more) q ∙ ap (λ (b : Doing). arms condition block b) r)

  pub if_is : (i : If) → if_done s calls i ≡ arms (out-If i).condition (all_done s calls (out-If i).then.statements) (others_of s calls (otherwise_of s calls (out-If i).otherwise) (out-If i).others)
  if_is (If' condition shape row block n others None' span) =
      let i : If = If' condition shape row block n others None' span in
      let one : (out-If i).condition ≡ condition = search (rules, the_lemmas) in
      let two : (out-If i).then.statements ≡ items-the_row-Stmt _ row = search (rules, the_lemmas) in
      let three : (out-If i).otherwise ≡ None = search (rules, the_lemmas) in
      let four : (out-If i).others ≡ items-the_row-ElseIf _ others = search (rules, the_lemmas) in
      arms_are condition (out-If i).condition (row_done s calls row) (all_done s calls (out-If i).then.statements) (others_done s calls went_on others) _
      one
      (ap (all_done s calls) two ∙ sym (done_row _ row))
      (ap (λ (o : Option Block). others_of s calls (otherwise_of s calls o) (out-If i).others) three ∙ ap (others_of s calls went_on) four ∙ sym (others_row went_on _ others))
  if_is (If' condition shape row block n others (Some' k r b) span) =
      let i : If = If' condition shape row block n others (Some' k r b) span in
      let last : Block = record { statements = items-the_row-Stmt _ r; span = b } in
      let otherwise : Doing = block_in (row_done s calls r) in
      let one : (out-If i).condition ≡ condition = search (rules, the_lemmas) in
      let two : (out-If i).then.statements ≡ items-the_row-Stmt _ row = search (rules, the_lemmas) in
      let three : (out-If i).otherwise ≡ Some last = search (rules, the_lemmas) in
      let four : (out-If i).others ≡ items-the_row-ElseIf _ others = search (rules, the_lemmas) in
      let held : otherwise_of s calls (Some last) ≡ otherwise = ap (λ (d : Doing). block_in d) (sym (done_row _ r)) in
      arms_are condition (out-If i).condition (row_done s calls row) (all_done s calls (out-If i).then.statements) (others_done s calls otherwise others) _
      one
      (ap (all_done s calls) two ∙ sym (done_row _ row))
      (ap (λ (o : Option Block). others_of s calls (otherwise_of s calls o) (out-If i).others) three ∙ ap (λ (d : Doing). others_of s calls d (out-If i).others) held
      ∙ ap (others_of s calls otherwise) four ∙ sym (others_row otherwise _ others))

  pub exec_of_Peek : (port : Name) (message : TypeName) (pairs : Pairs) (body : Block) (span : Span) (frame : Frame)
      → exec s calls (views.Peek port message pairs body span) frame ≡ peeked s.machine port.text (all_done s calls body.statements) frame
  exec_of_Peek port message pairs body span frame = ap (λ (d : Doing). peeked s.machine port.text d frame) (done_hidden body.statements)

  pub exec_of_Enqueue : (port : Name) (message : TypeName) (latency : Option Expr) (body : Block) (span : Span) (frame : Frame)
      → exec s calls (views.Enqueue port message latency body span) frame ≡ enqueued s calls port.text latency (all_done s calls body.statements) frame
  exec_of_Enqueue port message latency body span frame = ap (λ (d : Doing). enqueued s calls port.text latency d frame) (done_hidden body.statements)

  pub nothing_done : (statement : Stmt) (frame : Frame)
      → ((table : Name) × (span : Span) × (statement ≡ CheckAllocate table span)) ⊎ ((word : PrintWord) × (arguments : Balanced) × (span : Span) × (statement ≡ Print word arguments span))
      → exec s calls statement frame ≡ went_on frame
  nothing_done statement frame (inl (table, span, is)) = ap (λ (x : Stmt). exec s calls x frame) is
  nothing_done statement frame (inr (word, arguments, span, is)) = ap (λ (x : Stmt). exec s calls x frame) is
