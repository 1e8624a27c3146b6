-- Rows of children as lists of them, and such lists as rows: a row is that of its list.
use Rattle.std.proofs.Common.{◌≡◌, List, [], ◌∷◌, refl, ap}
use Rattle.std.specs.Prelude.{⊤}
use mathlib.Core.Former.{this, arity}
use Rattle.ruby_base.specs.formers.seq.Seq as seq
use Rattle.slicc_ast.specs.declared.tree.span.Span.{Span}
use Rattle.slicc_ast.specs.declared.tree.balanced.Part.{Part, Row_of-Part, end_of-Part, more_of-Part}
use Rattle.slicc_ast.specs.declared.tree.expression.Operator.{Operator}
use Rattle.slicc_ast.specs.declared.tree.expression.Suffix.{Suffix}
use Rattle.slicc_ast.specs.declared.tree.expression.Expr.{Expr, Row_of-Expr, end_of-Expr, more_of-Expr, Row_of-Operand, end_of-Operand, more_of-Operand, Row_of-Suffix, end_of-Suffix, more_of-Suffix}
use Rattle.slicc_ast.specs.declared.tree.statement.If.{Row_of-ElseIf, end_of-ElseIf, more_of-ElseIf}
use Rattle.slicc_ast.specs.declared.tree.statement.Stmt.{Stmt, Row_of-Stmt, end_of-Stmt, more_of-Stmt}

-- parts between brackets
abbrev pub PartRow : Type 0
PartRow = (n : List ⊤) × Row_of-Part (arity (seq.the_former this) n)

abbrev pub listed_parts : {m : _} → Row_of-Part m → List Part
listed_parts end_of-Part = []
listed_parts (more_of-Part first row) = first ∷ listed_parts row

abbrev pub part_row : List Part → PartRow
part_row [] = ([], end_of-Part)
part_row (first ∷ others) =
    let row = part_row others in
    (tt ∷ row.0, more_of-Part first row.1)

pub part_row_again : (n : List ⊤) (row : Row_of-Part (arity (seq.the_former this) n)) → part_row (listed_parts row) ≡ (n, row)
part_row_again [] end_of-Part = refl
part_row_again (unit ∷ n) (more_of-Part first row) = ap (λ (r : PartRow). (tt ∷ r.0, more_of-Part first r.1)) (part_row_again n row)

-- arguments
abbrev pub ExprRow : Type 0
ExprRow = (n : List ⊤) × Row_of-Expr (arity (seq.the_former this) n)

abbrev pub listed_exprs : {m : _} → Row_of-Expr m → List Expr
listed_exprs end_of-Expr = []
listed_exprs (more_of-Expr first row) = first ∷ listed_exprs row

abbrev pub expr_row : List Expr → ExprRow
expr_row [] = ([], end_of-Expr)
expr_row (first ∷ others) =
    let row = expr_row others in
    (tt ∷ row.0, more_of-Expr first row.1)

pub expr_row_again : (n : List ⊤) (row : Row_of-Expr (arity (seq.the_former this) n)) → expr_row (listed_exprs row) ≡ (n, row)
expr_row_again [] end_of-Expr = refl
expr_row_again (unit ∷ n) (more_of-Expr first row) = ap (λ (r : ExprRow). (tt ∷ r.0, more_of-Expr first r.1)) (expr_row_again n row)

-- operators, each with its operand behind it
abbrev pub OperandRow : Type 0
OperandRow = (n : List ⊤) × Row_of-Operand (arity (seq.the_former this) n)

abbrev pub listed_operands : {m : _} → Row_of-Operand m → List (Operator × Expr)
listed_operands end_of-Operand = []
listed_operands (more_of-Operand operator value row) = (operator, value) ∷ listed_operands row

abbrev pub operands_row : List (Operator × Expr) → OperandRow
operands_row [] = ([], end_of-Operand)
operands_row (first ∷ others) =
    let row = operands_row others in
    (tt ∷ row.0, more_of-Operand first.0 first.1 row.1)

pub operands_row_again : (n : List ⊤) (row : Row_of-Operand (arity (seq.the_former this) n)) → operands_row (listed_operands row) ≡ (n, row)
operands_row_again [] end_of-Operand = refl
operands_row_again (unit ∷ n) (more_of-Operand operator value row) =
    ap (λ (r : OperandRow). (tt ∷ r.0, more_of-Operand operator value r.1)) (operands_row_again n row)

-- suffixes
abbrev pub SuffixRow : Type 0
SuffixRow = (n : List ⊤) × Row_of-Suffix (arity (seq.the_former this) n)

abbrev pub listed_suffixes : {m : _} → Row_of-Suffix m → List Suffix
listed_suffixes end_of-Suffix = []
listed_suffixes (more_of-Suffix first row) = first ∷ listed_suffixes row

abbrev pub suffixes_row : List Suffix → SuffixRow
suffixes_row [] = ([], end_of-Suffix)
suffixes_row (first ∷ others) =
    let row = suffixes_row others in
    (tt ∷ row.0, more_of-Suffix first row.1)

pub suffixes_row_again : (n : List ⊤) (row : Row_of-Suffix (arity (seq.the_former this) n)) → suffixes_row (listed_suffixes row) ≡ (n, row)
suffixes_row_again [] end_of-Suffix = refl
suffixes_row_again (unit ∷ n) (more_of-Suffix first row) = ap (λ (r : SuffixRow). (tt ∷ r.0, more_of-Suffix first r.1)) (suffixes_row_again n row)

-- statements
abbrev pub StmtRow : Type 0
StmtRow = (n : List ⊤) × Row_of-Stmt (arity (seq.the_former this) n)

abbrev pub listed_stmts : {m : _} → Row_of-Stmt m → List Stmt
listed_stmts end_of-Stmt = []
listed_stmts (more_of-Stmt first row) = first ∷ listed_stmts row

abbrev pub stmts_row : List Stmt → StmtRow
stmts_row [] = ([], end_of-Stmt)
stmts_row (first ∷ others) =
    let row = stmts_row others in
    (tt ∷ row.0, more_of-Stmt first row.1)

pub stmts_row_again : (n : List ⊤) (row : Row_of-Stmt (arity (seq.the_former this) n)) → stmts_row (listed_stmts row) ≡ (n, row)
stmts_row_again [] end_of-Stmt = refl
stmts_row_again (unit ∷ n) (more_of-Stmt first row) = ap (λ (r : StmtRow). (tt ∷ r.0, more_of-Stmt first r.1)) (stmts_row_again n row)

-- conditions, each with its statements and the span of their block
abbrev pub ElseIfRow : Type 0
ElseIfRow = (n : List ⊤) × Row_of-ElseIf (arity (seq.the_former this) n)

abbrev pub Branch : Type 0
Branch = Expr × StmtRow × Span

abbrev pub listed_branches : {m : _} → Row_of-ElseIf m → List Branch
listed_branches end_of-ElseIf = []
listed_branches (more_of-ElseIf condition shape row block more) = (condition, (shape, row), block) ∷ listed_branches more

abbrev pub branches_row : List Branch → ElseIfRow
branches_row [] = ([], end_of-ElseIf)
branches_row (first ∷ others) =
    let row = branches_row others in
    (tt ∷ row.0, more_of-ElseIf first.0 first.1.0 first.1.1 first.2 row.1)

pub branches_row_again : (n : List ⊤) (row : Row_of-ElseIf (arity (seq.the_former this) n)) → branches_row (listed_branches row) ≡ (n, row)
branches_row_again [] end_of-ElseIf = refl
branches_row_again (unit ∷ n) (more_of-ElseIf condition shape row block more) =
    ap (λ (r : ElseIfRow). (tt ∷ r.0, more_of-ElseIf condition shape row block r.1)) (branches_row_again n more)
