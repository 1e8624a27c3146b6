-- The buffers that the rows of a tree send on are those of the items, one after another.
use Rattle.std.proofs.Common.{rules, ◌≡◌, ◌≤◌, ◌<◌, ◌+◌, ℕ, Option, List, [], ◌∷◌, ◌++◌, length, drop, drop-cons, get_or, add-one, refl, sym, ap, ◌∙◌, append_assoc, append-nil, slice_get}
use Rattle.std.specs.List.{flat_map}
use Rattle.std.proofs.lemmas.List.{drop_all}
use Rattle.slicc_ast.specs.declared.tree.declaration.Pairs.{Pairs}
use Rattle.slicc_ast.specs.declared.tree.expression.Expr.{Expr}
use Rattle.slicc_ast.specs.declared.tree.machine.Machine.{Machine}
use Rattle.slicc_ast.specs.declared.tree.name.Name.{Name}
use Rattle.slicc_ast.specs.declared.tree.name.TypeName.{TypeName}
use Rattle.slicc_ast.specs.declared.tree.span.Span.{Span}
use Rattle.slicc_ast.specs.declared.tree.statement.Block.{Block}
use Rattle.slicc_ast.specs.declared.tree.statement.ElseIf.{ElseIf}
use Rattle.slicc_ast.specs.declared.tree.statement.If.{If, If', None', Some', Row_of-ElseIf, end_of-ElseIf, more_of-ElseIf, items-the_row-ElseIf, out-If}
use Rattle.slicc_ast.specs.declared.tree.statement.Stmt.{Stmt, Row_of-Stmt, end_of-Stmt, more_of-Stmt, items-the_row-Stmt}
use Rattle.slicc_ast.specs.declared.tree.statement.Stmt.TheBlock as block
use Rattle.slicc_ast.specs.declared.tree.statement.Stmt.TheViews as views
use Rattle.slicc_ast.specs.declared.tree.statement.Stmt.TheViews.{the_lemmas}
use Rattle.ruby_symbols.specs.declared.machine.MachineSymbols.{MachineSymbols}
use Rattle.slicc_flow.specs.declared.sends.MachineSends.{MachineSends}
use Rattle.slicc_flow.specs.Sends.{block_sends, else_if_sends, if_sends, machine_sends, optional_sends, others_sends, port_sends, row_sends, sends_from, stmt_sends}
use Rattle.slicc_flow.proofs.PartLists.{added_both, added_three, statements_held}

module _ (own : MachineSymbols) where
  pub stmt_rows : (n : _) (row : Row_of-Stmt n) → row_sends own row ≡ flat_map (stmt_sends own) (items-the_row-Stmt n row)
  stmt_rows n end_of-Stmt = refl
  stmt_rows n (more_of-Stmt first row) = ap (λ sends. stmt_sends own first ++ sends) (stmt_rows _ row)

  held_sends : (statements : List Stmt) → row_sends own (block.hidden-the_row-Stmt-0 statements) ≡ flat_map (stmt_sends own) statements
  held_sends statements = stmt_rows _ (block.hidden-the_row-Stmt-0 statements) ∙ ap (flat_map (stmt_sends own)) (statements_held statements)

  others_rows : (n : _) (row : Row_of-ElseIf n) → others_sends own row ≡ flat_map (else_if_sends own) (items-the_row-ElseIf n row)
  others_rows n end_of-ElseIf = refl
  others_rows n (more_of-ElseIf condition shape inner block more) =
      let later = others_rows _ more in
      let held = stmt_rows _ inner in
      search (rules, the_lemmas, later, held, stmt_rows)

  if_rows : (i : If) → if_sends own i ≡ block_sends own (out-If i).then ++ (flat_map (else_if_sends own) (out-If i).others ++ optional_sends own (out-If i).otherwise)
  if_rows (If' condition shape row block n others None' span) = search (rules, the_lemmas, stmt_rows, others_rows)
  if_rows (If' condition shape row block n others (Some' s r b) span) = search (rules, the_lemmas, stmt_rows, others_rows)

  if_is : (i : If) (o : Option Block) → (out-If i).otherwise ≡ o → if_sends own i ≡ block_sends own (out-If i).then ++ (flat_map (else_if_sends own) (out-If i).others ++ optional_sends own o)
  if_is i o is = if_rows i ∙ ap (λ x. block_sends own (out-If i).then ++ (flat_map (else_if_sends own) (out-If i).others ++ optional_sends own x)) is

  -- Those that were added one after another.

  pub added_if : (i : If) (o : Option Block) (others : List ElseIf) (old one two new : List ℕ) → (out-If i).otherwise ≡ o → others ≡ (out-If i).others
      → one ≡ old ++ block_sends own (out-If i).then → two ≡ one ++ flat_map (else_if_sends own) others → new ≡ two ++ optional_sends own o → new ≡ old ++ if_sends own i
  added_if i o others old one two new is same p q r =
      added_three old (block_sends own (out-If i).then) (flat_map (else_if_sends own) (out-If i).others) (optional_sends own o) one two new (if_sends own i)
      p (q ∙ ap (λ xs. one ++ flat_map (else_if_sends own) xs) same) r (if_is i o is)

  pub added_peek : (s : Stmt) (port : Name) (message : TypeName) (pairs : Pairs) (body : Block) (span : Span) (old new : List ℕ) → s ≡ views.Peek port message pairs body span
      → new ≡ old ++ block_sends own body → new ≡ old ++ stmt_sends own s
  added_peek s port message pairs body span old new is p =
      let same : stmt_sends own s ≡ block_sends own body = ap (stmt_sends own) is ∙ held_sends body.statements in
      p ∙ ap (λ xs. old ++ xs) (sym same)

  pub added_enqueue : (s : Stmt) (port : Name) (message : TypeName) (latency : Option Expr) (body : Block) (span : Span) (old one new : List ℕ) → s ≡ views.Enqueue port message latency body span
      → one ≡ old ++ port_sends own port.text → new ≡ one ++ block_sends own body → new ≡ old ++ stmt_sends own s
  added_enqueue s port message latency body span old one new is p q =
      let same : stmt_sends own s ≡ port_sends own port.text ++ block_sends own body =
      ap (stmt_sends own) is ∙ ap (λ xs. port_sends own port.text ++ xs) (held_sends body.statements) in
      added_both old (port_sends own port.text) (block_sends own body) one new p q ∙ ap (λ xs. old ++ xs) (sym same)

-- Machines by their numbers.

module _ (machines : List Machine) (owns : List MachineSymbols) where
  pub machine_step : (k : ℕ) (own : MachineSymbols) (list new : List MachineSends) (sends : MachineSends) → k < length owns → own ≡ get_or owns k own
      → sends ≡ machine_sends own (slice_get machines k) → new ≡ list ++ sends ∷ []
      → sends_from machines 0 owns ≡ list ++ sends_from machines k (drop k owns) → sends_from machines 0 owns ≡ new ++ sends_from machines (k + 1) (drop (k + 1) owns)
  machine_step k own list new sends below is made next before =
      let split : drop k owns ≡ get_or owns k own ∷ drop (k + 1) owns = rw (add-one) (drop-cons owns k own below) in
      let later = sends_from machines (k + 1) (drop (k + 1) owns) in
      before
      ∙ ap (λ xs. list ++ sends_from machines k xs) split
      ∙ ap (λ x. list ++ machine_sends x (slice_get machines k) ∷ later) (sym is)
      ∙ ap (λ x. list ++ x ∷ later) (sym made)
      ∙ sym (append_assoc list (sends ∷ []) later)
      ∙ ap (λ xs. xs ++ later) (sym next)

  pub machines_end : (k : ℕ) (list : List MachineSends) → length owns ≤ k → sends_from machines 0 owns ≡ list ++ sends_from machines k (drop k owns) → list ≡ sends_from machines 0 owns
  machines_end k list past before =
      let none : drop k owns ≡ [] = drop_all k owns past in
      sym (before ∙ ap (λ xs. list ++ sends_from machines k xs) none ∙ append-nil list)
