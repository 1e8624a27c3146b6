-- A function that answers something has a way through its body that ends neither in `return` nor in `error`, which is told at
-- the function; or a `return` has a value where none is wanted, or none where one is, which is told at the `return`. A list of
-- statements ends where one of them does, and an `if` where it has an `else` and all its arms end. `peek` and `enqueue` end
-- where their blocks do. In a port and in an action no `return` has a value.
use Rattle.std.specs.Prelude.{◌&&◌, ◌||◌, ◌++◌, Bool, true, false, not, is_some, cond, None, Some, List, [], ◌∷◌, filter, flat_map, map}
use Rattle.std.specs.List.{list_any}
use Rattle.slicc_ast.specs.declared.tree.span.Span.{Span}
use Rattle.slicc_ast.specs.declared.tree.item.Tree.{Tree}
use Rattle.slicc_ast.specs.declared.tree.machine.Machine.{Machine}
use Rattle.slicc_ast.specs.declared.tree.declaration.Function.TheVariants.{Plain, Skipped}
use Rattle.slicc_ast.specs.declared.tree.statement.Block.{Block}
use Rattle.slicc_ast.specs.declared.tree.statement.If.{If, If', Held-If-otherwise, None', Some', Row_of-ElseIf, end_of-ElseIf, more_of-ElseIf}
use Rattle.slicc_ast.specs.declared.tree.statement.Stmt.{Stmt, Return, If as IfStmt, Peek', Enqueue', Error, Row_of-Stmt, end_of-Stmt, more_of-Stmt}
use Rattle.slicc_plan.specs.declared.broken.Broken.{Broken}
use Rattle.slicc_plan.specs.declared.broken.Rule.TheVariants.{NoReturn}
use Rattle.slicc_plan.specs.declared.built_in.BuiltInType.TheVariants.{Void}
use Rattle.slicc_plan.specs.Declarations.{Declaration, action, function, in_port, within, machine_declarations, machines_of}
use Rattle.slicc_plan.specs.Types.{is_built_in, type_in}

-- each way through the statement ends in it
abbrev mutual
  pub ends : Stmt → Bool
  ends (Return value span) = true
  ends (Error text span) = true
  ends (IfStmt i) = if_ends i
  ends (Peek' port message attributes shape row block span) = row_ends row
  ends (Enqueue' port message latency shape row block span) = row_ends row
  ends _ = false

  pub if_ends : If → Bool
  if_ends (If' condition shape row block n others otherwise span) =
      row_ends row && (others_end others && otherwise_ends otherwise)

  pub others_end : {m : _} → Row_of-ElseIf m → Bool
  others_end end_of-ElseIf = true
  others_end (more_of-ElseIf condition shape row block more) = row_ends row && others_end more

  pub otherwise_ends : Held-If-otherwise → Bool
  otherwise_ends None' = false
  otherwise_ends (Some' shape row block) = row_ends row

  pub row_ends : {m : _} → Row_of-Stmt m → Bool
  row_ends end_of-Stmt = false
  row_ends (more_of-Stmt first row) = ends first || row_ends row

abbrev pub body_ends : Block → Bool
body_ends b = list_any ends b.statements

pub record ReturnAt : Type 0 where
  pub has_value : Bool
  pub place : Span

-- the `return` statements in a statement
abbrev mutual
  pub returns_in : Stmt → List ReturnAt
  returns_in (Return value span) = record { has_value = is_some value; place = span } ∷ []
  returns_in (IfStmt i) = if_returns i
  returns_in (Peek' port message attributes shape row block span) = row_returns row
  returns_in (Enqueue' port message latency shape row block span) = row_returns row
  returns_in _ = []

  pub if_returns : If → List ReturnAt
  if_returns (If' condition shape row block n others otherwise span) =
      row_returns row ++ others_returns others ++ otherwise_returns otherwise

  pub others_returns : {m : _} → Row_of-ElseIf m → List ReturnAt
  others_returns end_of-ElseIf = []
  others_returns (more_of-ElseIf condition shape row block more) = row_returns row ++ others_returns more

  pub otherwise_returns : Held-If-otherwise → List ReturnAt
  otherwise_returns None' = []
  otherwise_returns (Some' shape row block) = row_returns row

  pub row_returns : {m : _} → Row_of-Stmt m → List ReturnAt
  row_returns end_of-Stmt = []
  row_returns (more_of-Stmt first row) = returns_in first ++ row_returns row

abbrev pub no_return : Span → Broken
no_return place = record { rule = NoReturn; machine = 0; place = place; other = None }

-- the `return` statements that have a value though none is wanted, or none though one is
abbrev pub wrong_returns : Bool → Block → List Broken
wrong_returns is_wanted b =
    map (λ (r : ReturnAt). no_return r.place)
    (filter (λ (r : ReturnAt). cond is_wanted (not r.has_value) r.has_value) (flat_map returns_in b.statements))

abbrev pub wrong_ends : Bool → Span → Block → List Broken
wrong_ends answers place b =
    cond (answers && not (body_ends b)) (no_return place ∷ []) [] ++ wrong_returns answers b

abbrev pub wrong_ways : List Tree → Machine → Declaration → List Broken
wrong_ways trees m (in_port p) = wrong_returns false p.body
wrong_ways trees m (action a) = wrong_returns false a.body
wrong_ways trees m (function (Plain kind called formals attributes (Some body) span)) =
    wrong_ends (not (is_built_in Void (type_in trees (within m) kind.text))) span body
wrong_ways trees m (function (Plain kind called formals attributes None span)) = []
wrong_ways trees m (function (Skipped s)) = []
wrong_ways trees m _ = []

abbrev pub wrong_ways_in : List Tree → Machine → List Broken
wrong_ways_in trees m = flat_map (wrong_ways trees m) (machine_declarations m)

abbrev pub missing_returns : List Tree → List Broken
missing_returns trees = flat_map (wrong_ways_in trees) (machines_of trees)
