-- Statements and blocks from their outlines. Of each node a statement is made, and the statements of a block.
use Rattle.std.proofs.Common.{◌≡◌, ℕ, true, Option, Some, None, List, [], ◌∷◌, refl, ap, ◌∙◌}
use Rattle.std.proofs.Math.Path.{ap₂}
use Rattle.std.proofs.lemmas.Bool.{and_parts}
use Rattle.std.specs.Prelude.{⊤}
use mathlib.Core.Former.{this, arity}
use Rattle.ruby_base.specs.formers.seq.Seq as seq
use Rattle.slicc_ast.specs.declared.tree.span.Span.{Span}
use Rattle.slicc_ast.specs.declared.tree.token.TokenKind.{TokenKind}
use Rattle.slicc_ast.specs.declared.tree.token.TokenKind.TheVariants.{Name, Number, Quoted, Word, Sign, End}
use Rattle.slicc_ast.specs.declared.tree.token.Word.{Word as Reserved}
use Rattle.slicc_ast.specs.declared.tree.token.Word.TheVariants.{Peek, Enqueue, StallAndWait as StallAndWaitWord, CheckAllocate as CheckAllocateWord, If as IfWord, Return as ReturnWord, Error as ErrorWord, Assert as AssertWord, Dprintf as DprintfWord, AppendTransitionComment as CommentWord}
use Rattle.slicc_ast.specs.declared.tree.balanced.Balanced.{Balanced}
use Rattle.slicc_ast.specs.declared.tree.declaration.Pairs.{Pairs}
use Rattle.slicc_ast.specs.declared.tree.expression.Expr.{Expr}
use Rattle.slicc_ast.specs.declared.tree.statement.PrintWord.TheVariants.{Dprintf, AppendTransitionComment}
use Rattle.slicc_ast.specs.declared.tree.statement.Block.{Block}
use Rattle.slicc_ast.specs.declared.tree.statement.If.{If, If', Held-If-otherwise, None', Some', Row_of-ElseIf, end_of-ElseIf, more_of-ElseIf}
use Rattle.slicc_ast.specs.declared.tree.statement.Stmt.{Stmt, Declare, Assign, Evaluate, Return, If as IfStmt, Peek', Enqueue', StallAndWait, CheckAllocate, Error, Assert, Print, Row_of-Stmt, end_of-Stmt, more_of-Stmt}
use Rattle.slicc_ast.specs.Outline.{token}
use Rattle.slicc_ast.specs.Prelude.{Outline, node, Parts, none, part, provided, no_span, is_allowed, are_allowed, stmt, if_outline, else_if_row, else_part, stmt_row, stmt_list, block_end, block_outline}
use Rattle.slicc_files.proofs.Bare.{bare, bare_in}
use Rattle.slicc_files.proofs.Rows.{StmtRow, listed_stmts, stmts_row, stmts_row_again, ElseIfRow, Branch, listed_branches, branches_row, branches_row_again}
use Rattle.slicc_files.proofs.Places.{span_of, text_of}
use Rattle.slicc_files.proofs.FromNames.{name_from, type_from}
use Rattle.slicc_files.proofs.FromBalanced.{balanced_from, balanced_again}
use Rattle.slicc_files.proofs.FromDeclarations.{pairs_from, pairs_again}
use Rattle.slicc_files.proofs.FromExpressions.{expr_from, expr_again}

-- what is made of a node
pub record Made : Type 0 where
  pub statement : Stmt
  pub statements : List Stmt

-- parts, each node with what was made of it
pub data Pieces : Type 0 where
  ended : Pieces
  with_token : TokenKind → Pieces → Pieces
  with_node : Outline → Made → Pieces → Pieces

-- the first node, the statements in it, and what is behind it
abbrev node_in : Pieces → Outline
node_in ended = node no_span none
node_in (with_token kind left) = node_in left
node_in (with_node o made left) = o

abbrev statements_in : Pieces → List Stmt
statements_in ended = []
statements_in (with_token kind left) = statements_in left
statements_in (with_node o made left) = made.statements

abbrev behind_node : Pieces → Pieces
behind_node ended = ended
behind_node (with_token kind left) = behind_node left
behind_node (with_node o made left) = left

-- the statements of a block
abbrev statements_made : Pieces → List Stmt
statements_made ended = []
statements_made (with_token kind left) = statements_made left
statements_made (with_node o made left) = made.statement ∷ statements_made left

-- what is behind the first block of an `if`
abbrev branches_in : Pieces → List Branch
branches_in (with_token a (with_token b (with_token c (with_node o made (with_token d (with_node p block left)))))) =
    (expr_from o, stmts_row block.statements, span_of p) ∷ branches_in left
branches_in _ = []

abbrev otherwise_in : Pieces → Held-If-otherwise
otherwise_in (with_token a (with_token b (with_token c (with_node o made (with_token d (with_node p block left)))))) = otherwise_in left
otherwise_in (with_token a (with_node p block left)) =
    let row = stmts_row block.statements in
    Some' row.0 row.1 (span_of p)
otherwise_in _ = None'

abbrev if_made : Span → Outline → StmtRow → Span → ElseIfRow → Held-If-otherwise → If
if_made span condition row block others otherwise = If' (expr_from condition) row.0 row.1 block others.0 others.1 otherwise span

abbrev if_begun : Span → Pieces → If
if_begun span left =
    let body = behind_node left in
    let after = behind_node body in
    if_made span (node_in left) (stmts_row (statements_in body)) (span_of (node_in body)) (branches_row (branches_in after)) (otherwise_in after)

abbrev peek_begun : Span → Pieces → Stmt
peek_begun span left =
    let after = behind_node left in
    let more = behind_node after in
    let body = behind_node more in
    let row = stmts_row (statements_in body) in
    Peek' (name_from (node_in left)) (type_from (node_in after)) (pairs_from (node_in more)) row.0 row.1 (span_of (node_in body)) span

-- `enqueue`, by what is behind the third node in its parentheses and behind them: nothing where that is its block
abbrev enqueue_by : Span → Pieces → Pieces → Stmt
enqueue_by span left ended =
    let after = behind_node left in
    let body = behind_node after in
    let row = stmts_row (statements_in body) in
    Enqueue' (name_from (node_in left)) (type_from (node_in after)) None row.0 row.1 (span_of (node_in body)) span
enqueue_by span left body =
    let after = behind_node left in
    let more = behind_node after in
    let row = stmts_row (statements_in body) in
    Enqueue' (name_from (node_in left)) (type_from (node_in after)) (Some (expr_from (node_in more))) row.0 row.1 (span_of (node_in body)) span

abbrev optional_in : Pieces → Option Expr
optional_in ended = None
optional_in (with_token kind left) = None
optional_in (with_node o made left) = Some (expr_from o)

-- the text of the second token
abbrev second_text : Pieces → List ℕ
second_text (with_token kind (with_token next left)) = text_of next
second_text _ = []

abbrev word_begun : Span → Pieces → Reserved → Stmt
word_begun span left ReturnWord = Return (optional_in left) span
word_begun span left IfWord = IfStmt (if_begun span left)
word_begun span left Peek = peek_begun span left
word_begun span left Enqueue = enqueue_by span left (behind_node (behind_node (behind_node left)))
word_begun span left StallAndWaitWord = StallAndWait (name_from (node_in left)) (expr_from (node_in (behind_node left))) span
word_begun span left CheckAllocateWord = CheckAllocate (name_from (node_in left)) span
word_begun span left ErrorWord = Error (second_text left) span
word_begun span left AssertWord = Assert (expr_from (node_in left)) span
word_begun span left DprintfWord = Print Dprintf (balanced_from (node_in left)) span
word_begun span left CommentWord = Print AppendTransitionComment (balanced_from (node_in left)) span
word_begun span left _ = Return None span

abbrev token_begun : Span → Pieces → TokenKind → Stmt
token_begun span left (Name text) = Return None span
token_begun span left (Number n) = Return None span
token_begun span left (Quoted text) = Return None span
token_begun span left (Word reserved) = word_begun span left reserved
token_begun span left (Sign which) = Return None span
token_begun span left End = Return None span

-- a place that gets a value, a value alone, or a type and a name
abbrev node_begun : Span → Outline → Pieces → Stmt
node_begun span o ended = Evaluate (expr_from o) span
node_begun span o (with_token kind ended) = Evaluate (expr_from o) span
node_begun span o (with_token kind (with_token next left)) = Evaluate (expr_from o) span
node_begun span o (with_token kind (with_node p made left)) = Assign (expr_from o) (expr_from p) span
node_begun span o (with_node p made left) = Declare (type_from o) (name_from p) (expr_from (node_in left)) span

abbrev statement_made : Span → Pieces → Stmt
statement_made span ended = Return None span
statement_made span (with_token kind left) = token_begun span left kind
statement_made span (with_node o made left) = node_begun span o left

abbrev all_made : Span → Pieces → Made
all_made span pieces = record { statement = statement_made span pieces; statements = statements_made pieces }

abbrev mutual
  made_of : Outline → Made
  made_of (node span parts) = all_made span (pieces_in parts)

  pieces_in : Parts → Pieces
  pieces_in none = ended
  pieces_in (token kind parts) = with_token kind (pieces_in parts)
  pieces_in (part outline parts) = with_node outline (made_of outline) (pieces_in parts)
  pieces_in (provided condition parts) = pieces_in parts

abbrev stmt_from : Outline → Stmt
stmt_from o = (made_of o).statement

abbrev pub block_from : Outline → Block
block_from o = record { statements = (made_of o).statements; span = span_of o }

-- a list that a row has is that row
row_whole : (n : List ⊤) (row : Row_of-Stmt (arity (seq.the_former this) n)) (ss : List Stmt) → ss ≡ listed_stmts row → stmts_row ss ≡ (n, row)
row_whole n row ss same = ap stmts_row same ∙ stmts_row_again n row

branches_whole : (n : List ⊤) (row : Row_of-ElseIf (arity (seq.the_former this) n)) (bs : List Branch) → bs ≡ listed_branches row → branches_row bs ≡ (n, row)
branches_whole n row bs same = ap branches_row same ∙ branches_row_again n row

-- an `else` is no further branch, and is behind all of them
no_branches : (h : Held-If-otherwise) → branches_in (pieces_in (bare_in (else_part h none))) ≡ []
no_branches None' = refl
no_branches (Some' shape row block) = refl

otherwise_behind : {m : _} (row : Row_of-ElseIf m) (h : Held-If-otherwise) → otherwise_in (pieces_in (bare_in (else_if_row row (else_part h none)))) ≡ otherwise_in (pieces_in (bare_in (else_part h none)))
otherwise_behind end_of-ElseIf h = refl
otherwise_behind (more_of-ElseIf condition shape row block more) h = otherwise_behind more h

else_allowed : {m : _} (row : Row_of-ElseIf m) (parts : Parts) → are_allowed (else_if_row row parts) ≡ true → are_allowed parts ≡ true
else_allowed end_of-ElseIf parts allowed = allowed
else_allowed (more_of-ElseIf condition shape row block more) parts allowed =
    else_allowed more parts (and_parts _ _ (and_parts _ _ allowed).1).1

mutual
  stmt_again : (s : Stmt) → is_allowed (stmt s) ≡ true → stmt_from (bare (stmt s)) ≡ s
  stmt_again (Declare kind local value span) allowed = ap (λ (e : Expr). Declare kind local e span) (expr_again value (and_parts _ true allowed).0)
  stmt_again (Assign place value span) allowed =
      let inner = and_parts _ _ allowed in
      ap₂ (λ (d : Expr) (e : Expr). Assign d e span) (expr_again place inner.0) (expr_again value (and_parts _ true inner.1).0)
  stmt_again (Evaluate value span) allowed = ap (λ (e : Expr). Evaluate e span) (expr_again value (and_parts _ true allowed).0)
  stmt_again (Return None span) allowed = refl
  stmt_again (Return (Some value) span) allowed = ap (λ (e : Expr). Return (Some e) span) (expr_again value (and_parts _ true allowed).0)
  stmt_again (IfStmt i) allowed = if_again i allowed
  stmt_again (Peek' port message attributes shape row block span) allowed =
      let inner = and_parts _ _ allowed in
      ap₂ (λ (p : Pairs) (r : StmtRow). Peek' port message p r.0 r.1 block span) (pairs_again attributes)
      (row_whole shape row _ (stmts_again row (and_parts _ true inner.1).0))
  stmt_again (Enqueue' port message None shape row block span) allowed =
      ap (λ (r : StmtRow). Enqueue' port message None r.0 r.1 block span) (row_whole shape row _ (stmts_again row (and_parts _ true allowed).0))
  stmt_again (Enqueue' port message (Some latency) shape row block span) allowed =
      let inner = and_parts _ _ allowed in
      ap₂ (λ (e : Expr) (r : StmtRow). Enqueue' port message (Some e) r.0 r.1 block span) (expr_again latency inner.0)
      (row_whole shape row _ (stmts_again row (and_parts _ true inner.1).0))
  stmt_again (StallAndWait port address span) allowed = ap (λ (e : Expr). StallAndWait port e span) (expr_again address (and_parts _ true allowed).0)
  stmt_again (CheckAllocate table span) allowed = refl
  stmt_again (Error text span) allowed = refl
  stmt_again (Assert condition span) allowed = ap (λ (e : Expr). Assert e span) (expr_again condition (and_parts _ true allowed).0)
  stmt_again (Print Dprintf arguments span) allowed = ap (λ (b : Balanced). Print Dprintf b span) (balanced_again arguments)
  stmt_again (Print AppendTransitionComment arguments span) allowed =
      ap (λ (b : Balanced). Print AppendTransitionComment b span) (balanced_again arguments)

  if_again : (i : If) → is_allowed (if_outline i) ≡ true → stmt_from (bare (if_outline i)) ≡ IfStmt i
  if_again (If' condition shape row block n others otherwise span) allowed =
      let inner = and_parts _ _ allowed in
      let behind = and_parts _ _ inner.1 in
      ap₂ (λ (e : Expr) (r : StmtRow). IfStmt (If' e r.0 r.1 block
      (branches_row (branches_in (pieces_in (bare_in (else_if_row others (else_part otherwise none)))))).0
      (branches_row (branches_in (pieces_in (bare_in (else_if_row others (else_part otherwise none)))))).1
      (otherwise_in (pieces_in (bare_in (else_if_row others (else_part otherwise none))))) span))
      (expr_again condition inner.0) (row_whole shape row _ (stmts_again row behind.0))
      ∙ ap₂ (λ (b : ElseIfRow) (h : Held-If-otherwise). IfStmt (If' condition shape row block b.0 b.1 h span))
      (branches_whole n others _ (branches_again others otherwise behind.1))
      (otherwise_behind others otherwise ∙ else_again otherwise (else_allowed others (else_part otherwise none) behind.1))

  branches_again : {m : _} (row : Row_of-ElseIf m) (h : Held-If-otherwise) → are_allowed (else_if_row row (else_part h none)) ≡ true → branches_in (pieces_in (bare_in (else_if_row row (else_part h none)))) ≡ listed_branches row
  branches_again end_of-ElseIf h allowed = no_branches h
  branches_again (more_of-ElseIf condition shape row block more) h allowed =
      let inner = and_parts _ _ allowed in
      let behind = and_parts _ _ inner.1 in
      ap₂ (λ (x : Branch) (xs : List Branch). x ∷ xs)
      (ap₂ (λ (e : Expr) (r : StmtRow). (e, r, block)) (expr_again condition inner.0) (row_whole shape row _ (stmts_again row behind.0)))
      (branches_again more h behind.1)

  else_again : (h : Held-If-otherwise) → are_allowed (else_part h none) ≡ true → otherwise_in (pieces_in (bare_in (else_part h none))) ≡ h
  else_again None' allowed = refl
  else_again (Some' shape row block) allowed =
      ap (λ (r : StmtRow). Some' r.0 r.1 block) (row_whole shape row _ (stmts_again row (and_parts _ true allowed).0))

  stmts_again : {m : _} (row : Row_of-Stmt m) → are_allowed (stmt_row row block_end) ≡ true → statements_made (pieces_in (bare_in (stmt_row row block_end))) ≡ listed_stmts row
  stmts_again end_of-Stmt allowed = refl
  stmts_again (more_of-Stmt first row) allowed =
      let inner = and_parts _ _ allowed in
      ap₂ (λ (x : Stmt) (xs : List Stmt). x ∷ xs) (stmt_again first inner.0) (stmts_again row inner.1)

list_again : (ss : List Stmt) → are_allowed (stmt_list ss block_end) ≡ true → statements_made (pieces_in (bare_in (stmt_list ss block_end))) ≡ ss
list_again [] allowed = refl
list_again (first ∷ others) allowed =
    let inner = and_parts (is_allowed (stmt first)) (are_allowed (stmt_list others block_end)) allowed in
    ap₂ (λ (x : Stmt) (xs : List Stmt). x ∷ xs) (stmt_again first inner.0) (list_again others inner.1)

pub block_again : (b : Block) → is_allowed (block_outline b) ≡ true → block_from (bare (block_outline b)) ≡ b
block_again b allowed = ap (λ (ss : List Stmt). record b { statements = ss }) (list_again b.statements allowed)
