-- A reader makes a statement's and a block's outline of their tokens. A statement that begins with a name is read behind it.
use Rattle.std.proofs.Common.{◌≡◌, ℕ, zero, suc, Bool, true, false, List, [], ◌∷◌, Option, Some, None, refl, sym, subst, arith}
use Rattle.std.specs.List.{slice_get}
use Rattle.std.proofs.lemmas.Bool.{and_parts}
use Rattle.std.proofs.lemmas.Option.{same_Some}
use Rattle.slicc_ast.specs.declared.tree.span.Span.{Span}
use Rattle.slicc_ast.specs.declared.tree.token.TokenKind.{TokenKind}
use Rattle.slicc_ast.specs.declared.tree.token.Word.TheVariants.{Else}
use Rattle.slicc_ast.specs.declared.tree.token.Sign.TheVariants.{OpenBrace, CloseBrace}
use Rattle.slicc_ast.specs.declared.tree.expression.Expr.{Expr}
use Rattle.slicc_ast.specs.declared.tree.statement.Block.{Block}
use Rattle.slicc_ast.specs.declared.tree.statement.PrintWord.TheVariants.{Dprintf, AppendTransitionComment}
use Rattle.slicc_ast.specs.declared.tree.statement.If.{If, If', Held-If-otherwise, None', Some', Row_of-ElseIf, end_of-ElseIf, more_of-ElseIf}
use Rattle.slicc_ast.specs.declared.tree.statement.Stmt.{Stmt, Declare, Assign, Evaluate, Return, If as IfStmt, Peek', Enqueue', StallAndWait, CheckAllocate, Error, Assert, Print, Row_of-Stmt, end_of-Stmt, more_of-Stmt}
use Rattle.slicc_ast.specs.Prelude.{node, Parts, none, part, is_allowed, are_allowed, expr, stmt, if_outline, else_if_row, else_part, stmt_row, stmt_list, block_end, Row, Rows, done, form, maybe, many, next, Form}
use Rattle.slicc_ast.specs.Names.{sign as sign_parts}
use Rattle.slicc_ast.proofs.Building.Builds.{one, alternative, on}
use Rattle.slicc_ast.proofs.Shapes.{◌▸◌, Made, Mark, Step, mark, marked_by, Makes, of, at, close, name, word, sign, front, operators_to, end_of_statement}
use Rattle.slicc_ast.proofs.Making.{spelled_in, Forms, Closes, Place, Behind, closed_last, then_token, then_name, then_type, then_form, then_on, then_alternative, then_present, then_absent, then_again, then_enough, by_node}
use Rattle.slicc_ast.proofs.MakingExpressions.{begins_with_name, expression_forms, from_its_start}
use Rattle.slicc_ast.proofs.MakingParts.{then_pairs, then_balanced}

-- an expression and what is behind it, from its start
front_closes : {row : Place} {rows : Behind} {parts : Parts} (e : Expr) → Closes row rows parts → Closes (λ R S. front (begins_with_name e) (operators_to 6 (row R S))) rows (part (expr e) parts)
front_closes {row = row} {rows = rows} {parts = parts} e c =
    record {
      makes = λ allowed R S rest s to m.
          let both = and_parts (is_allowed (expr e)) (are_allowed parts) allowed in
          from_its_start e both.0 (row R S) (rows R S) (spelled_in parts rest) s to (c.makes both.1 R S rest _ to m);
    }

-- what is read behind a name may be read so behind the same name elsewhere
on_back : {X : Row Step} {S : Rows Step} {ts : List TokenKind} {s to : Made} → Makes done (next X S) ts s to → Makes X S ts s to
on_back (on m) = m

only_done : (place : ℕ) (chosen : Row Step) → slice_get (done ∷ []) place ≡ Some chosen → chosen ≡ done
only_done zero chosen found = sym (same_Some done chosen found)
only_done (suc place) chosen found = absurd (let no : ◌≡◌ {A = Option (Row Step)} None (Some chosen) = found in grind arith)

mark_elsewhere : {m : Mark} {X Y : Row Step} {S T : Rows Step} {ts : List TokenKind} {s to : Made} → Makes (form (mark m) X) S ts s to → (Makes X S ts (marked_by m s) to → Makes Y T ts (marked_by m s) to) → Makes (form (mark m) Y) T ts s to
mark_elsewhere {m = m} {X = X} {S = S} {ts = ts} {s = s} {to = to} (alternative place chosen found k) f =
    alternative 0 done refl (on (f (on_back (subst (λ r. Makes r (next X S) ts (marked_by m s) to) (only_done place chosen found) k))))

name_elsewhere : {X Y : Row Step} {S T : Rows Step} {ts : List TokenKind} {s to : Made} → Makes (name X) S ts s to → ((left : List TokenKind) (made : Made) → Makes X S left made to → Makes Y T left made to) → Makes (name Y) T ts s to
name_elsewhere (one is k) f = one is (mark_elsewhere k (λ m. f _ _ m))

-- a statement that an expression begins
abbrev End : Parts → Type 0
End parts = (row : Place) (rows : Behind) → Closes row rows none → Closes (λ R S. end_of_statement (row R S)) rows parts

from_front : (named_first : Bool) (span : Span) (parts all : Parts) → ((row : Place) (rows : Behind) → Closes row rows parts → Closes (λ R S. front named_first (operators_to 6 (row R S))) rows all) → End parts → Forms Form.statement (node span all)
from_front false span parts all fronts ends = by_node 1 refl (fronts _ _ (ends _ _ closed_last))
from_front true span parts all fronts ends =
    by_node 0 refl (record {
      makes = λ allowed R S rest s to m.
          name_elsewhere
          ((fronts (λ R S. end_of_statement done) (λ R S. next (at close done) (next R S)) (ends (λ R S. done) (λ R S. next (at close done) (next R S)) (then_on closed_last))).makes allowed R S rest s to m)
          (λ left made k. alternative 1 _ refl k);
    })

by_expression : (e : Expr) (span : Span) (parts : Parts) → End parts → Forms Form.statement (node span (part (expr e) parts))
by_expression e span parts ends = from_front (begins_with_name e) span parts (part (expr e) parts) (λ row rows c. front_closes e c) ends

abbrev statement_part : Row Step
statement_part = of Form.statement done

abbrev last_else : Row Step
last_else = (word Else ▸ of Form.otherwise) done

in_block : {parts : Parts} (span : Span) → Closes (λ R S. many statement_part ((sign CloseBrace ▸ at close) done)) (λ R S. next R S) parts → Forms Form.block (node span (sign_parts OpenBrace parts))
in_block span c = by_node 0 refl (then_token refl c)

mutual
  pub stmt_forms : (s : Stmt) → Forms Form.statement (stmt s)
  stmt_forms (Declare kind local value span) =
      by_node 0 refl (then_type (then_alternative Form.statement_end 0 refl (then_name (then_token refl (then_form (expression_forms value) (then_token refl (then_on closed_last)))))))
  stmt_forms (Assign place value span) =
      by_expression place span _ (λ row rows c. then_present (then_token refl (then_form (expression_forms value) (then_on (then_token refl c)))))
  stmt_forms (Evaluate value span) = by_expression value span _ (λ row rows c. then_absent (then_token refl c))
  stmt_forms (Return None span) = by_node 2 refl (then_token refl (then_absent (then_token refl closed_last)))
  stmt_forms (Return (Some value) span) =
      by_node 2 refl (then_token refl (then_present (then_form (expression_forms value) (then_on (then_token refl closed_last)))))
  stmt_forms (IfStmt i) = if_forms i
  stmt_forms (Peek' port message attributes shape row block span) =
      by_node 4 refl (then_token refl (then_token refl (then_name (then_token refl (then_type (then_pairs attributes (then_token refl
      (then_form (in_block block (stmts_close row)) closed_last))))))))
  stmt_forms (Enqueue' port message None shape row block span) =
      by_node 5 refl (then_token refl (then_token refl (then_name (then_token refl (then_type (then_absent (then_token refl
      (then_form (in_block block (stmts_close row)) closed_last))))))))
  stmt_forms (Enqueue' port message (Some latency) shape row block span) =
      by_node 5 refl (then_token refl (then_token refl (then_name (then_token refl (then_type (then_present (then_token refl
      (then_form (expression_forms latency) (then_on (then_token refl (then_form (in_block block (stmts_close row)) closed_last)))))))))))
  stmt_forms (StallAndWait port address span) =
      by_node 6 refl (then_token refl (then_token refl (then_name (then_token refl (then_form (expression_forms address) (then_token refl (then_token refl closed_last)))))))
  stmt_forms (CheckAllocate table span) =
      by_node 7 refl (then_token refl (then_token refl (then_name (then_token refl (then_token refl closed_last)))))
  stmt_forms (Error text span) =
      by_node 8 refl (then_token refl (then_token refl (then_token refl (then_token refl (then_token refl closed_last)))))
  stmt_forms (Assert condition span) =
      by_node 9 refl (then_token refl (then_token refl (then_form (expression_forms condition) (then_token refl (then_token refl closed_last)))))
  stmt_forms (Print Dprintf within span) =
      by_node 10 refl (then_token refl (then_token refl (then_balanced within (then_token refl (then_token refl closed_last)))))
  stmt_forms (Print AppendTransitionComment within span) =
      by_node 10 refl (then_token refl (then_token refl (then_balanced within (then_token refl (then_token refl closed_last)))))

  if_forms : (i : If) → Forms Form.statement (if_outline i)
  if_forms (If' condition shape row block n others otherwise span) =
      by_node 3 refl (then_alternative Form.conditional 0 refl (then_token refl (then_token refl (then_form (expression_forms condition) (then_token refl
      (then_form (in_block block (stmts_close row)) (else_ifs_close others (else_part otherwise none) (λ row rows c. else_closes otherwise c) (then_on closed_last))))))))

  else_ifs_close : {n : _} {row : Place} {rows : Behind} (others : Row_of-ElseIf n) (parts : Parts) → ((row : Place) (rows : Behind) → Closes row rows none → Closes (λ R S. maybe last_else (row R S)) rows parts) → Closes row rows none → Closes (λ R S. maybe last_else (row R S)) rows (else_if_row others parts)
  else_ifs_close end_of-ElseIf parts ends c = ends _ _ c
  else_ifs_close (more_of-ElseIf condition shape inner block more) parts ends c =
      then_present (then_token refl (then_alternative Form.otherwise 0 refl (then_alternative Form.conditional 0 refl (then_token refl (then_token refl
      (then_form (expression_forms condition) (then_token refl (then_form (in_block block (stmts_close inner))
      (else_ifs_close more parts ends (then_on (then_on (then_on c))))))))))))

  else_closes : {row : Place} {rows : Behind} (otherwise : Held-If-otherwise) → Closes row rows none → Closes (λ R S. maybe last_else (row R S)) rows (else_part otherwise none)
  else_closes None' c = then_absent c
  else_closes (Some' shape inner block) c =
      then_present (then_token refl (then_alternative Form.otherwise 1 refl (then_form (in_block block (stmts_close inner)) (then_on (then_on c)))))

  stmts_close : {n : _} (row : Row_of-Stmt n) → Closes (λ R S. many statement_part ((sign CloseBrace ▸ at close) done)) (λ R S. next R S) (stmt_row row block_end)
  stmts_close end_of-Stmt = then_enough (then_token refl closed_last)
  stmts_close (more_of-Stmt first row) = then_again (then_form (stmt_forms first) (then_on (stmts_close row)))

-- a block of its own
stmt_list_closes : (ss : List Stmt) → Closes (λ R S. many statement_part ((sign CloseBrace ▸ at close) done)) (λ R S. next R S) (stmt_list ss block_end)
stmt_list_closes [] = then_enough (then_token refl closed_last)
stmt_list_closes (first ∷ others) = then_again (then_form (stmt_forms first) (then_on (stmt_list_closes others)))

pub whole_block_forms : (b : Block) → Forms Form.block (node b.span (sign_parts OpenBrace (stmt_list b.statements block_end)))
whole_block_forms b = in_block b.span (stmt_list_closes b.statements)
