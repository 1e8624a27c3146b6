-- The blocks of a body and the locals that they declare. A body's outermost block has the formals too. Blocks are those of
-- `if`, `else`, `peek` and `enqueue`.
use Rattle.std.specs.Prelude.{List, [], ◌∷◌, ◌++◌, flat_map}
use Rattle.slicc_ast.specs.declared.tree.statement.Block.{Block}
use Rattle.slicc_ast.specs.declared.tree.statement.If.{If, If', Held-If-otherwise, None', Some', Row_of-ElseIf, end_of-ElseIf, more_of-ElseIf}
use Rattle.slicc_ast.specs.declared.tree.statement.Stmt.{Stmt, Declare, If as IfStmt, Peek', Enqueue', Row_of-Stmt, end_of-Stmt, more_of-Stmt}
use Rattle.slicc_plan.specs.Declarations.{Declaration, local}

-- the local that a statement declares
abbrev pub local_of : Stmt → List Declaration
local_of (Declare kind called value span) = local kind called span ∷ []
local_of _ = []

abbrev pub row_locals : {m : _} → Row_of-Stmt m → List Declaration
row_locals end_of-Stmt = []
row_locals (more_of-Stmt first row) = local_of first ++ row_locals row

-- the locals of each block in a statement, block by block
abbrev mutual
  pub blocks_in : Stmt → List (List Declaration)
  blocks_in (IfStmt i) = if_blocks i
  blocks_in (Peek' port message attributes shape row block span) = row_locals row ∷ row_blocks row
  blocks_in (Enqueue' port message latency shape row block span) = row_locals row ∷ row_blocks row
  blocks_in _ = []

  pub if_blocks : If → List (List Declaration)
  if_blocks (If' condition shape row block n others otherwise span) =
      (row_locals row ∷ row_blocks row) ++ others_blocks others ++ otherwise_blocks otherwise

  pub others_blocks : {m : _} → Row_of-ElseIf m → List (List Declaration)
  others_blocks end_of-ElseIf = []
  others_blocks (more_of-ElseIf condition shape row block more) =
      (row_locals row ∷ row_blocks row) ++ others_blocks more

  pub otherwise_blocks : Held-If-otherwise → List (List Declaration)
  otherwise_blocks None' = []
  otherwise_blocks (Some' shape row block) = row_locals row ∷ row_blocks row

  pub row_blocks : {m : _} → Row_of-Stmt m → List (List Declaration)
  row_blocks end_of-Stmt = []
  row_blocks (more_of-Stmt first row) = blocks_in first ++ row_blocks row

-- all locals that a statement declares, in the order of the text
abbrev mutual
  pub locals_in : Stmt → List Declaration
  locals_in (Declare kind called value span) = local kind called span ∷ []
  locals_in (IfStmt i) = if_locals i
  locals_in (Peek' port message attributes shape row block span) = all_row_locals row
  locals_in (Enqueue' port message latency shape row block span) = all_row_locals row
  locals_in _ = []

  pub if_locals : If → List Declaration
  if_locals (If' condition shape row block n others otherwise span) =
      all_row_locals row ++ others_locals others ++ otherwise_locals otherwise

  pub others_locals : {m : _} → Row_of-ElseIf m → List Declaration
  others_locals end_of-ElseIf = []
  others_locals (more_of-ElseIf condition shape row block more) = all_row_locals row ++ others_locals more

  pub otherwise_locals : Held-If-otherwise → List Declaration
  otherwise_locals None' = []
  otherwise_locals (Some' shape row block) = all_row_locals row

  pub all_row_locals : {m : _} → Row_of-Stmt m → List Declaration
  all_row_locals end_of-Stmt = []
  all_row_locals (more_of-Stmt first row) = locals_in first ++ all_row_locals row

-- what a body with these formals declares, block by block, the outermost first
abbrev pub body_scopes : List Declaration → Block → List (List Declaration)
body_scopes formals b =
    (formals ++ flat_map local_of b.statements) ∷ flat_map blocks_in b.statements

-- all locals of a body, in the order of the text
abbrev pub body_locals : Block → List Declaration
body_locals b = flat_map locals_in b.statements
