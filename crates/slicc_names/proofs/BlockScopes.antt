-- The scopes in a statement by the lists of its parts.
use Rattle.std.proofs.Common.{rules, ◌≡◌, List, [], ◌++◌, flat_map, Option, None, Some, refl, ap}
use Rattle.slicc_ast.specs.declared.tree.statement.Block.{Block}
use Rattle.slicc_ast.specs.declared.tree.statement.If.{If, If', None', Some', Row_of-ElseIf, end_of-ElseIf, more_of-ElseIf, items-the_row-ElseIf, out-If}
use Rattle.slicc_ast.specs.declared.tree.statement.Stmt.{Row_of-Stmt, end_of-Stmt, more_of-Stmt, items-the_row-Stmt}
use Rattle.slicc_ast.specs.declared.tree.statement.Stmt.TheViews.{the_lemmas}
use Rattle.slicc_plan.specs.Prelude.{blocks_in, body_scopes, if_blocks, local_of, others_blocks, row_blocks, row_locals, Declaration}
use Rattle.slicc_names.specs.Prelude.{else_if_scopes}

pub locals_of_row : (n : _) (row : Row_of-Stmt n) → row_locals row ≡ flat_map local_of (items-the_row-Stmt n row)
locals_of_row n end_of-Stmt = refl
locals_of_row n (more_of-Stmt first row) = ap (λ ds. local_of first ++ ds) (locals_of_row _ row)

pub blocks_of_row : (n : _) (row : Row_of-Stmt n) → row_blocks row ≡ flat_map blocks_in (items-the_row-Stmt n row)
blocks_of_row n end_of-Stmt = refl
blocks_of_row n (more_of-Stmt first row) = ap (λ ds. blocks_in first ++ ds) (blocks_of_row _ row)

pub others_of_row : (n : _) (row : Row_of-ElseIf n) → others_blocks row ≡ flat_map else_if_scopes (items-the_row-ElseIf n row)
others_of_row n end_of-ElseIf = refl
others_of_row n (more_of-ElseIf condition shape inner block more) =
    let later = others_of_row _ more in
    search (rules, the_lemmas, later, locals_of_row, blocks_of_row)

abbrev pub optional_scopes : Option Block → List (List Declaration)
optional_scopes None = []
optional_scopes (Some b) = body_scopes [] b

pub if_scopes : (i : If) → if_blocks i ≡ body_scopes [] (out-If i).then ++ flat_map else_if_scopes (out-If i).others ++ optional_scopes (out-If i).otherwise
if_scopes (If' condition shape row block n others None' span) = search (rules, the_lemmas, locals_of_row, blocks_of_row, others_of_row)
if_scopes (If' condition shape row block n others (Some' s r b) span) = search (rules, the_lemmas, locals_of_row, blocks_of_row, others_of_row)
