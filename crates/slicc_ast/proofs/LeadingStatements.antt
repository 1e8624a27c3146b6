-- What a statement's or a block's tree spells, before what stands behind it.
use Rattle.std.proofs.Common.{◌≡◌, ℕ, true, List, [], ◌∷◌, map, Some, None, refl, subst, ◌∙◌, append-nil}
use Rattle.std.proofs.lemmas.Bool.{and_parts}
use Rattle.slicc_ast.specs.declared.tree.token.Word.TheVariants.{If as IfWord, Else}
use Rattle.slicc_ast.specs.declared.tree.token.Sign.TheVariants.{OpenBrace}
use Rattle.slicc_ast.specs.declared.tree.expression.Expr.{Expr}
use Rattle.slicc_ast.specs.declared.tree.statement.Block.{Block}
use Rattle.slicc_ast.specs.declared.tree.statement.PrintWord.TheVariants.{Dprintf, AppendTransitionComment}
use Rattle.slicc_ast.specs.declared.tree.statement.If.{If, If', Held-If-otherwise, None', Some', Row_of-ElseIf, end_of-ElseIf, more_of-ElseIf}
use Rattle.slicc_ast.specs.declared.tree.statement.Stmt.{Stmt, Declare, Assign, Evaluate, Return, If as IfStmt, Peek', Enqueue', StallAndWait, CheckAllocate, Error, Assert, Print, Row_of-Stmt, end_of-Stmt, more_of-Stmt}
use Rattle.slicc_ast.specs.Prelude.{Parts, none, is_allowed, are_allowed, kinds_in, balanced_list, expr, pair_list, stmt, if_outline, else_if_row, else_part, stmt_row, stmt_list, block_end, Row, Rows, done, form, maybe, many, end, up, Derives, Whole, ended, one, Form, kind_of, sign_kind, of, ◌▸◌, comma, semicolon, assign, parentheses, written}
use Rattle.slicc_ast.specs.Statements.{block}
use Rattle.slicc_ast.specs.Matches.Matches.{absent, enough, inside, outside}
use Rattle.slicc_ast.proofs.Translating.{fold_to, to_present, to_again}
use Rattle.slicc_ast.specs.Parts.{word}
use Rattle.slicc_ast.proofs.Followed.{follow, follow_parts, follow_parts-spelling}
use Rattle.slicc_ast.proofs.Leading.{name_is_one, close, expr_leads, as_expression}
use Rattle.slicc_ast.proofs.LeadingParts.{Fits, close_brace, balanced_leads, pairs_lead}

expression_leads : (e : Expr) → is_allowed (expr e) ≡ true → (r : Row Form) (S : Rows Form) (rest : List ℕ) (o : ℕ) → Fits r S rest o → Fits (form Form.expression r) S (follow (expr e) rest) o
expression_leads e allowed = as_expression e (expr_leads e allowed)

abbrev statement_part : Row Form
statement_part = form Form.statement done

abbrev else_ifs : Row Form
else_ifs = (word Else ▸ word IfWord ▸ parentheses (of Form.expression) ▸ of Form.block) done

abbrev last_else : Row Form
last_else = (word Else ▸ of Form.block) done

in_block : (r : Row Form) (S : Rows Form) (inner : List ℕ) (o : ℕ) → Fits (many statement_part close_brace) (up r S) inner o → Fits (form Form.block r) S (sign_kind OpenBrace ∷ inner) o
in_block r S inner o m = fold_to written Form.block 0 refl Whole (sign_kind OpenBrace ∷ inner) o (inside refl m)

mutual
  pub stmt_leads : (s : Stmt) → is_allowed (stmt s) ≡ true → (r : Row Form) (S : Rows Form) (rest : List ℕ) (o : ℕ) → Fits r S rest o → Fits (form Form.statement r) S (follow (stmt s) rest) o
  stmt_leads (Declare kind local value span) allowed r S rest o m =
      let fine = and_parts (is_allowed (expr value)) true allowed in
      fold_to written Form.statement 0 refl Whole _ o (one (name_is_one kind.text) (one (name_is_one local.text) (one refl
      (expression_leads value fine.0 (semicolon r) S _ o (one refl m)))))
  stmt_leads (Assign place value span) allowed r S rest o m =
      let both = and_parts (is_allowed (expr place)) _ allowed in
      let fine = and_parts (is_allowed (expr value)) true both.1 in
      fold_to written Form.statement 1 refl Whole _ o (expression_leads place both.0 ((assign ▸ of Form.expression ▸ semicolon) r) S _ o (one refl
      (expression_leads value fine.0 (semicolon r) S _ o (one refl m))))
  stmt_leads (Evaluate value span) allowed r S rest o m =
      let fine = and_parts (is_allowed (expr value)) true allowed in
      fold_to written Form.statement 2 refl Whole _ o (expression_leads value fine.0 (semicolon r) S _ o (one refl m))
  stmt_leads (Return None span) allowed r S rest o m = fold_to written Form.statement 3 refl Whole _ o (one refl (absent (one refl m)))
  stmt_leads (Return (Some value) span) allowed r S rest o m =
      let fine = and_parts (is_allowed (expr value)) true allowed in
      fold_to written Form.statement 3 refl Whole _ o (one refl (to_present written (form Form.expression done) (semicolon r) Whole _ o
      (expression_leads value fine.0 (semicolon r) S _ o (one refl m))))
  stmt_leads (IfStmt i) allowed r S rest o m = fold_to written Form.statement 4 refl Whole _ o (if_leads i allowed r S rest o m)
  stmt_leads (Peek' port message attributes shape row block span) allowed r S rest o m =
      let both = and_parts (are_allowed (pair_list attributes.items)) _ allowed in
      let fine = and_parts (are_allowed (stmt_row row block_end)) true both.1 in
      fold_to written Form.statement 5 refl Whole _ o (one refl (inside refl (one (name_is_one port.text) (one refl (one (name_is_one message.text)
      (pairs_lead attributes.items close (up (form Form.block r) S) _ o (one refl (outside (in_block _ _ _ _ (stmts_lead row fine.0 r S rest o m))))))))))
  stmt_leads (Enqueue' port message None shape row block span) allowed r S rest o m =
      let fine = and_parts (are_allowed (stmt_row row block_end)) true allowed in
      fold_to written Form.statement 6 refl Whole _ o (one refl (inside refl (one (name_is_one port.text) (one refl (one (name_is_one message.text)
      (absent (one refl (outside (in_block _ _ _ _ (stmts_lead row fine.0 r S rest o m))))))))))
  stmt_leads (Enqueue' port message (Some latency) shape row block span) allowed r S rest o m =
      let both = and_parts (is_allowed (expr latency)) _ allowed in
      let fine = and_parts (are_allowed (stmt_row row block_end)) true both.1 in
      fold_to written Form.statement 6 refl Whole _ o (one refl (inside refl (one (name_is_one port.text) (one refl (one (name_is_one message.text)
      (to_present written ((comma ▸ of Form.expression) done) close Whole _ o (one refl
      (expression_leads latency both.0 close (up (form Form.block r) S) _ o (one refl (outside (in_block _ _ _ _ (stmts_lead row fine.0 r S rest o m))))))))))))
  stmt_leads (StallAndWait port address span) allowed r S rest o m =
      let fine = and_parts (is_allowed (expr address)) true allowed in
      fold_to written Form.statement 7 refl Whole _ o (one refl (inside refl (one (name_is_one port.text) (one refl
      (expression_leads address fine.0 close (up (semicolon r) S) _ o (one refl (outside (one refl m))))))))
  stmt_leads (CheckAllocate table span) allowed r S rest o m =
      fold_to written Form.statement 8 refl Whole _ o (one refl (inside refl (one (name_is_one table.text) (one refl (outside (one refl m))))))
  stmt_leads (Error text span) allowed r S rest o m =
      fold_to written Form.statement 9 refl Whole _ o (one refl (inside refl (one refl (one refl (outside (one refl m))))))
  stmt_leads (Assert condition span) allowed r S rest o m =
      let fine = and_parts (is_allowed (expr condition)) true allowed in
      fold_to written Form.statement 10 refl Whole _ o (one refl (inside refl
      (expression_leads condition fine.0 close (up (semicolon r) S) _ o (one refl (outside (one refl m))))))
  stmt_leads (Print Dprintf arguments span) allowed r S rest o m =
      let fine = and_parts (are_allowed (balanced_list arguments.parts)) true allowed in
      fold_to written Form.statement 11 refl Whole _ o (one refl (inside refl
      (balanced_leads arguments.parts fine.0 close (up (semicolon r) S) _ o (one refl (outside (one refl m))))))
  stmt_leads (Print AppendTransitionComment arguments span) allowed r S rest o m =
      let fine = and_parts (are_allowed (balanced_list arguments.parts)) true allowed in
      fold_to written Form.statement 11 refl Whole _ o (one refl (inside refl
      (balanced_leads arguments.parts fine.0 close (up (semicolon r) S) _ o (one refl (outside (one refl m))))))

  if_leads : (i : If) → is_allowed (if_outline i) ≡ true → (r : Row Form) (S : Rows Form) (rest : List ℕ) (o : ℕ) → Fits r S rest o → Fits (form Form.conditional r) S (follow (if_outline i) rest) o
  if_leads (If' condition shape row block n others otherwise span) allowed r S rest o m =
      let both = and_parts (is_allowed (expr condition)) _ allowed in
      let fine = and_parts (are_allowed (stmt_row row block_end)) (are_allowed (else_if_row others (else_part otherwise none))) both.1 in
      fold_to written Form.conditional 0 refl Whole _ o (one refl (inside refl
      (expression_leads condition both.0 close (up ((of Form.block) (many else_ifs (maybe last_else r))) S) _ o (one refl (outside
      (in_block _ _ _ _ (stmts_lead row fine.0 (many else_ifs (maybe last_else r)) S _ o (else_ifs_lead others (else_part otherwise none) fine.1 r S rest o (λ ok. else_leads otherwise ok r S rest o m)))))))))

  else_ifs_lead : {n : _} (others : Row_of-ElseIf n) (parts : Parts) → are_allowed (else_if_row others parts) ≡ true → (r : Row Form) (S : Rows Form) (rest : List ℕ) (o : ℕ) → (are_allowed parts ≡ true → Fits (maybe last_else r) S (follow_parts parts rest) o) → Fits (many else_ifs (maybe last_else r)) S (follow_parts (else_if_row others parts) rest) o
  else_ifs_lead end_of-ElseIf parts allowed r S rest o m = enough (m allowed)
  else_ifs_lead (more_of-ElseIf condition shape row block more) parts allowed r S rest o m =
      let both = and_parts (is_allowed (expr condition)) _ allowed in
      let fine = and_parts (are_allowed (stmt_row row block_end)) (are_allowed (else_if_row more parts)) both.1 in
      to_again written else_ifs (maybe last_else r) Whole _ o (one refl (one refl (inside refl
      (expression_leads condition both.0 close (up ((of Form.block) (many else_ifs (maybe last_else r))) S) _ o (one refl (outside
      (in_block _ _ _ _ (stmts_lead row fine.0 (many else_ifs (maybe last_else r)) S _ o (else_ifs_lead more parts fine.1 r S rest o m)))))))))

  else_leads : (otherwise : Held-If-otherwise) → are_allowed (else_part otherwise none) ≡ true → (r : Row Form) (S : Rows Form) (rest : List ℕ) (o : ℕ) → Fits r S rest o → Fits (maybe last_else r) S (follow_parts (else_part otherwise none) rest) o
  else_leads None' allowed r S rest o m = absent m
  else_leads (Some' shape row block) allowed r S rest o m =
      let fine = and_parts (are_allowed (stmt_row row block_end)) true allowed in
      to_present written last_else r Whole _ o (one refl (in_block _ _ _ _ (stmts_lead row fine.0 r S rest o m)))

  stmts_lead : {n : _} (row : Row_of-Stmt n) → are_allowed (stmt_row row block_end) ≡ true → (r : Row Form) (S : Rows Form) (rest : List ℕ) (o : ℕ) → Fits r S rest o → Fits (many statement_part close_brace) (up r S) (follow_parts (stmt_row row block_end) rest) o
  stmts_lead end_of-Stmt allowed r S rest o m = enough (one refl (outside m))
  stmts_lead (more_of-Stmt first row) allowed r S rest o m =
      let both = and_parts (is_allowed (stmt first)) (are_allowed (stmt_row row block_end)) allowed in
      to_again written statement_part close_brace Whole _ o
      (stmt_leads first both.0 (many statement_part close_brace) (up r S) _ o (stmts_lead row both.1 r S rest o m))

-- a block of its own
stmt_list_leads : (ss : List Stmt) → are_allowed (stmt_list ss block_end) ≡ true → (r : Row Form) (S : Rows Form) (rest : List ℕ) (o : ℕ) → Fits r S rest o → Fits (many statement_part close_brace) (up r S) (follow_parts (stmt_list ss block_end) rest) o
stmt_list_leads [] allowed r S rest o m = enough (one refl (outside m))
stmt_list_leads (first ∷ others) allowed r S rest o m =
    let both = and_parts (is_allowed (stmt first)) (are_allowed (stmt_list others block_end)) allowed in
    to_again written statement_part close_brace Whole _ o
    (stmt_leads first both.0 (many statement_part close_brace) (up r S) _ o (stmt_list_leads others both.1 r S rest o m))

pub whole_block_leads : (b : Block) → are_allowed (stmt_list b.statements block_end) ≡ true → (r : Row Form) (S : Rows Form) (rest : List ℕ) (o : ℕ) → Fits r S rest o → Fits (form Form.block r) S (sign_kind OpenBrace ∷ follow_parts (stmt_list b.statements block_end) rest) o
whole_block_leads b allowed r S rest o m =
    in_block r S _ o (stmt_list_leads b.statements allowed r S rest o m)

-- so what a block's tree spells is a block of the written grammar
pub block_derives : (b : Block) → are_allowed (block b none) ≡ true → Derives written (form Form.block done) end (map kind_of (kinds_in (block b none)))
block_derives b allowed =
    let fine = and_parts (are_allowed (stmt_list b.statements block_end)) true allowed in
    subst (λ ts. Derives written (form Form.block done) end ts)
    (follow_parts-spelling (block b none) [] ∙ append-nil (map kind_of (kinds_in (block b none))))
    (whole_block_leads b fine.0 done end [] 0 ended)
