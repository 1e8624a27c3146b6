-- Counting down over lists of names, part by part, and what is left in the end.
use Rattle.std.proofs.Common.{rules, arith, ◌≡◌, ◌<◌, ◌≤◌, ◌+◌, ℕ, zero, suc, Bool, true, false, cond, Option, None, Some, is_none, List, [], ◌∷◌, ◌++◌, get_or, length, take, nat_lt, add-one, refl, sym, ap, ◌∙◌, append-nil}
use Rattle.std.specs.List.{count_by, flat_map}
use Rattle.std.proofs.Math.Seq.{take-suc}
use Rattle.std.proofs.lemmas.Bool.{le-ltb, lt-ltb}
use Rattle.std.proofs.lemmas.Bool.Decides.{nat_tests}
use Rattle.std.proofs.lemmas.Grind.{flat_map-append}
use Rattle.std.proofs.lemmas.List.Sums.{fold-append, sum_by-cons}
use Rattle.slicc_ast.specs.declared.tree.declaration.Pairs.{Pairs}
use Rattle.slicc_ast.specs.declared.tree.expression.Expr.{Expr}
use Rattle.slicc_ast.specs.declared.tree.name.Name.{Name}
use Rattle.slicc_ast.specs.declared.tree.name.TypeName.{TypeName}
use Rattle.slicc_ast.specs.declared.tree.span.Span.{Span}
use Rattle.slicc_ast.specs.declared.tree.statement.Block.{Block}
use Rattle.slicc_ast.specs.declared.tree.statement.ElseIf.{ElseIf}
use Rattle.slicc_ast.specs.declared.tree.statement.If.{If, If', None', Some', Row_of-ElseIf, end_of-ElseIf, more_of-ElseIf, items-the_row-ElseIf, out-If}
use Rattle.slicc_ast.specs.declared.tree.statement.Stmt.{Stmt, Row_of-Stmt, end_of-Stmt, more_of-Stmt, items-the_row-Stmt}
use Rattle.slicc_ast.specs.declared.tree.statement.Stmt.TheBlock as block
use Rattle.slicc_ast.specs.declared.tree.statement.Stmt.TheViews as views
use Rattle.slicc_ast.specs.declared.tree.statement.Stmt.TheViews.{the_lemmas}
use Rattle.body_meaning.specs.Prelude.{Pick, block_names, if_names, names_in, of_enqueue, others_names, otherwise_names, row_names}
use Rattle.statement_walk.specs.Prelude.{else_if_names, one_less, spend, spent}
use Rattle.statement_walk.proofs.Rows.{statements_held}

-- The names in the rows of a tree are those of the items, one after another.

module _ (pick : Pick) where
  pub stmt_rows : (n : _) (row : Row_of-Stmt n) → row_names pick row ≡ flat_map (names_in pick) (items-the_row-Stmt n row)
  stmt_rows n end_of-Stmt = refl
  stmt_rows n (more_of-Stmt first row) = ap (λ names. names_in pick first ++ names) (stmt_rows _ row)

  names_hidden : (statements : List Stmt) → row_names pick (block.hidden-the_row-Stmt-0 statements) ≡ flat_map (names_in pick) statements
  names_hidden statements = stmt_rows _ (block.hidden-the_row-Stmt-0 statements) ∙ ap (flat_map (names_in pick)) (statements_held statements)

  pub names_of_Peek : (port : Name) (message : TypeName) (pairs : Pairs) (body : Block) (span : Span) → names_in pick (views.Peek port message pairs body span) ≡ flat_map (names_in pick) body.statements
  names_of_Peek port message pairs body span = names_hidden body.statements

  pub names_of_Enqueue : (port : Name) (message : TypeName) (latency : Option Expr) (body : Block) (span : Span)
      → names_in pick (views.Enqueue port message latency body span) ≡ of_enqueue pick port.text ++ flat_map (names_in pick) body.statements
  names_of_Enqueue port message latency body span = ap (λ names. of_enqueue pick port.text ++ names) (names_hidden body.statements)

  pub others_rows : (n : _) (row : Row_of-ElseIf n) → others_names pick row ≡ flat_map (else_if_names pick) (items-the_row-ElseIf n row)
  others_rows n end_of-ElseIf = refl
  others_rows n (more_of-ElseIf condition shape inner block more) =
      let later = others_rows _ more in
      let held = stmt_rows _ inner in
      search (rules, the_lemmas, later, held, stmt_rows)

  pub if_rows : (i : If) → if_names pick i ≡ flat_map (names_in pick) (out-If i).then.statements ++ (flat_map (else_if_names pick) (out-If i).others ++ block_names pick (out-If i).otherwise)
  if_rows (If' condition shape row block n others None' span) = search (rules, the_lemmas, stmt_rows, others_rows)
  if_rows (If' condition shape row block n others (Some' s r b) span) = search (rules, the_lemmas, stmt_rows, others_rows)

-- Parts.

module _ (passes : List ℕ → Bool) where
  pub spent-append : (left : Option ℕ) (xs ys : List (List ℕ)) → spent passes left (xs ++ ys) ≡ spent passes (spent passes left xs) ys
  spent-append left xs ys = fold-append (spend passes) left xs ys

  pub spent-more : {X : Type 0} (f : X → List (List ℕ)) (left : Option ℕ) (xs : List X) (i : ℕ) (d : X) → i < length xs
      → spent passes left (flat_map f (take (i + 1) xs)) ≡ spent passes (spent passes left (flat_map f (take i xs))) (f (get_or xs i d))
  spent-more f left xs i d h =
      rw (add-one, take-suc xs i d h, flat_map-append f (take i xs) (get_or xs i d ∷ []), append-nil (f (get_or xs i d)))
      (spent-append left (flat_map f (take i xs)) (f (get_or xs i d)))

  pub spent-if : (pick : Pick) (left first second result : Option ℕ) (i : If)
      → first ≡ spent passes left (flat_map (names_in pick) (out-If i).then.statements)
      → second ≡ spent passes first (flat_map (else_if_names pick) (out-If i).others)
      → result ≡ spent passes second (block_names pick (out-If i).otherwise)
      → result ≡ spent passes left (if_names pick i)
  spent-if pick left first second result i one two three =
      let names = if_rows pick i in
      let a = flat_map (names_in pick) (out-If i).then.statements in
      let b = flat_map (else_if_names pick) (out-If i).others in
      let c = block_names pick (out-If i).otherwise in
      three ∙ ap (λ o. spent passes o c) two ∙ ap (λ o. spent passes (spent passes o b) c) one
      ∙ sym (ap (spent passes left) names ∙ spent-append left a (b ++ c) ∙ spent-append (spent passes left a) b c)

  -- What is left.

  spent-none : (names : List (List ℕ)) → spent passes None names ≡ None
  spent-none [] = refl
  spent-none (x ∷ xs) = spent-none xs

  lt-zero : (n : ℕ) → false ≡ nat_lt n 0
  lt-zero n = let here : 0 ≤ n = omega arith in sym (le-ltb n 0 here)

  lt-first : (k : ℕ) → true ≡ nat_lt 0 (1 + k)
  lt-first k = let here : 0 < 1 + k = omega arith in sym (lt-ltb 0 (1 + k) here)

  lt-next : (n k : ℕ) → nat_lt n k ≡ nat_lt (suc n) (1 + k)
  lt-next n k = grind (arith, nat_tests)

  lt-same : (n k : ℕ) → nat_lt n k ≡ nat_lt n (0 + k)
  lt-same n k = let same : k ≡ 0 + k = omega arith in ap (nat_lt n) same

  none_left_by : (names : List (List ℕ)) → ((n : ℕ) → is_none (spent passes (Some n) names) ≡ nat_lt n (count_by passes names)) → (b : Bool) (n : ℕ)
      → is_none (spent passes (cond b (one_less n) (Some n)) names) ≡ nat_lt n (cond b 1 0 + count_by passes names)
  none_left_by names later true zero = ap is_none (spent-none names) ∙ lt-first (count_by passes names)
  none_left_by names later true (suc n) = later n ∙ lt-next n (count_by passes names)
  none_left_by names later false n = later n ∙ lt-same n (count_by passes names)

  pub none_left : (names : List (List ℕ)) (n : ℕ) → is_none (spent passes (Some n) names) ≡ nat_lt n (count_by passes names)
  none_left [] n = lt-zero n
  none_left (x ∷ xs) n = none_left_by xs (none_left xs) (passes x) n ∙ ap (nat_lt n) (sym (sum_by-cons (λ y. cond (passes y) 1 0) x xs))
