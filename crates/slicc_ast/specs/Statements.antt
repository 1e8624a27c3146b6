-- Statements and blocks as rows of parts.
use Rattle.std.specs.Prelude.{Option, Some, None, List, [], ◌∷◌}
use Rattle.slicc_ast.specs.declared.tree.span.Span.{Span}
use Rattle.slicc_ast.specs.declared.tree.token.TokenKind.TheVariants.{Quoted}
use Rattle.slicc_ast.specs.declared.tree.token.Word.{Word}
use Rattle.slicc_ast.specs.declared.tree.token.Word.TheVariants.{Peek, Enqueue, StallAndWait as StallAndWaitWord, CheckAllocate as CheckAllocateWord, If as IfWord, Else, Return as ReturnWord, Error as ErrorWord, Assert as AssertWord, Dprintf as DprintfWord, AppendTransitionComment as CommentWord}
use Rattle.slicc_ast.specs.declared.tree.token.Sign.TheVariants.{OpenBrace, CloseBrace, OpenParenthesis, CloseParenthesis, Semicolon, Comma, Assign as AssignSign}
use Rattle.slicc_ast.specs.declared.tree.expression.Expr.{Expr}
use Rattle.slicc_ast.specs.declared.tree.statement.PrintWord.{PrintWord}
use Rattle.slicc_ast.specs.declared.tree.statement.PrintWord.TheVariants.{Dprintf, AppendTransitionComment}
use Rattle.slicc_ast.specs.declared.tree.statement.Block.{Block}
use Rattle.slicc_ast.specs.declared.tree.statement.If.{If, If', Held-If-otherwise, None', Some', Row_of-ElseIf, end_of-ElseIf, more_of-ElseIf}
use Rattle.slicc_ast.specs.declared.tree.statement.Stmt.{Stmt, Declare, Assign, Evaluate, Return, If as IfStmt, Peek', Enqueue', StallAndWait, CheckAllocate, Error, Assert, Print, Row_of-Stmt, end_of-Stmt, more_of-Stmt}
use Rattle.slicc_ast.specs.Outline.{Outline, node, Parts, none, token, part}
use Rattle.slicc_ast.specs.Names.{word, sign, name, type_name, balanced}
use Rattle.slicc_ast.specs.Expressions.{expr}
use Rattle.slicc_ast.specs.Declarations.{pairs}

abbrev pub print_word : PrintWord → Word
print_word Dprintf = DprintfWord
print_word AppendTransitionComment = CommentWord

-- [ expr ]
abbrev pub optional_expr : Option Expr → Parts → Parts
optional_expr None parts = parts
optional_expr (Some e) parts = part (expr e) parts

-- [ , expr ]
abbrev pub latency_parts : Option Expr → Parts → Parts
latency_parts None parts = parts
latency_parts (Some e) parts = sign Comma (part (expr e) parts)

-- block := { statements }, where these parts are the statements and what closes the block
abbrev pub block_part : Span → Parts → Parts → Parts
block_part span statements parts = part (node span (sign OpenBrace statements)) parts

abbrev pub block_end : Parts
block_end = sign CloseBrace none

abbrev mutual
  pub stmt : Stmt → Outline
  stmt (Declare kind local value span) =
      node span (type_name kind (name local (sign AssignSign (part (expr value) (sign Semicolon none)))))
  stmt (Assign place value span) = node span (part (expr place) (sign AssignSign (part (expr value) (sign Semicolon none))))
  stmt (Evaluate value span) = node span (part (expr value) (sign Semicolon none))
  stmt (Return value span) = node span (word ReturnWord (optional_expr value (sign Semicolon none)))
  stmt (IfStmt i) = if_outline i
  stmt (Peek' port message attributes shape row block span) =
      node span (word Peek (sign OpenParenthesis (name port (sign Comma (type_name message (pairs attributes
      (sign CloseParenthesis (block_part block (stmt_row row block_end) none))))))))
  stmt (Enqueue' port message latency shape row block span) =
      node span (word Enqueue (sign OpenParenthesis (name port (sign Comma (type_name message (latency_parts latency
      (sign CloseParenthesis (block_part block (stmt_row row block_end) none))))))))
  stmt (StallAndWait port address span) =
      node span (word StallAndWaitWord (sign OpenParenthesis (name port (sign Comma (part (expr address)
      (sign CloseParenthesis (sign Semicolon none)))))))
  stmt (CheckAllocate table span) =
      node span (word CheckAllocateWord (sign OpenParenthesis (name table (sign CloseParenthesis (sign Semicolon none)))))
  stmt (Error text span) =
      node span (word ErrorWord (sign OpenParenthesis (token (Quoted text) (sign CloseParenthesis (sign Semicolon none)))))
  stmt (Assert condition span) =
      node span (word AssertWord (sign OpenParenthesis (part (expr condition) (sign CloseParenthesis (sign Semicolon none)))))
  stmt (Print which arguments span) =
      node span (word (print_word which) (sign OpenParenthesis (balanced arguments (sign CloseParenthesis (sign Semicolon none)))))

  pub if_outline : If → Outline
  if_outline (If' condition shape row block n others otherwise span) =
      node span (word IfWord (sign OpenParenthesis (part (expr condition) (sign CloseParenthesis
      (block_part block (stmt_row row block_end) (else_if_row others (else_part otherwise none)))))))

  -- { else if ( expr ) block }
  pub else_if_row : {m : _} → Row_of-ElseIf m → Parts → Parts
  else_if_row end_of-ElseIf parts = parts
  else_if_row (more_of-ElseIf condition shape row block more) parts =
      word Else (word IfWord (sign OpenParenthesis (part (expr condition) (sign CloseParenthesis
      (block_part block (stmt_row row block_end) (else_if_row more parts))))))

  -- [ else block ]
  pub else_part : Held-If-otherwise → Parts → Parts
  else_part None' parts = parts
  else_part (Some' shape row block) parts = word Else (block_part block (stmt_row row block_end) parts)

  pub stmt_row : {m : _} → Row_of-Stmt m → Parts → Parts
  stmt_row end_of-Stmt parts = parts
  stmt_row (more_of-Stmt first row) parts = part (stmt first) (stmt_row row parts)

abbrev pub stmt_list : List Stmt → Parts → Parts
stmt_list [] parts = parts
stmt_list (first ∷ others) parts = part (stmt first) (stmt_list others parts)

abbrev pub block_outline : Block → Outline
block_outline b = node b.span (sign OpenBrace (stmt_list b.statements block_end))

abbrev pub block : Block → Parts → Parts
block b parts = part (block_outline b) parts
