-- The locals in a statement by the lists of its parts.
use Rattle.std.proofs.Common.{rules, ◌≡◌, List, [], ◌++◌, flat_map, map, Option, None, Some, refl, ap, ◌∙◌}
use Rattle.std.proofs.lemmas.List.{map-append}
use Rattle.slicc_ast.specs.declared.tree.statement.Block.{Block}
use Rattle.slicc_ast.specs.declared.tree.statement.ElseIf.{ElseIf}
use Rattle.slicc_ast.specs.declared.tree.statement.If.{If, If', None', Some', Row_of-ElseIf, end_of-ElseIf, more_of-ElseIf, items-the_row-ElseIf, out-If}
use Rattle.slicc_ast.specs.declared.tree.statement.Stmt.{Row_of-Stmt, end_of-Stmt, more_of-Stmt, items-the_row-Stmt}
use Rattle.slicc_ast.specs.declared.tree.statement.Stmt.TheViews.{the_lemmas}
use Rattle.slicc_plan.specs.Prelude.{all_row_locals, body_locals, if_locals, locals_in, others_locals, Declaration, place_of}
use Rattle.slicc_names.proofs.Counts.{map_flat}
use Rattle.slicc_names.specs.Prelude.{else_if_places, local_places}

pub all_of_row : (n : _) (row : Row_of-Stmt n) → all_row_locals row ≡ flat_map locals_in (items-the_row-Stmt n row)
all_of_row n end_of-Stmt = refl
all_of_row n (more_of-Stmt first row) = ap (λ ds. locals_in first ++ ds) (all_of_row _ row)

abbrev pub else_if_locals : ElseIf → List Declaration
else_if_locals e = body_locals e.then

pub others_of_row : (n : _) (row : Row_of-ElseIf n) → others_locals row ≡ flat_map else_if_locals (items-the_row-ElseIf n row)
others_of_row n end_of-ElseIf = refl
others_of_row n (more_of-ElseIf condition shape inner block more) =
    let later = others_of_row _ more in
    search (rules, the_lemmas, later, all_of_row)

abbrev pub optional_locals : Option Block → List Declaration
optional_locals None = []
optional_locals (Some b) = body_locals b

pub if_all_locals : (i : If) → if_locals i ≡ body_locals (out-If i).then ++ flat_map else_if_locals (out-If i).others ++ optional_locals (out-If i).otherwise
if_all_locals (If' condition shape row block n others None' span) = search (rules, the_lemmas, all_of_row, others_of_row)
if_all_locals (If' condition shape row block n others (Some' s r b) span) = search (rules, the_lemmas, all_of_row, others_of_row)

pub body_places : (b : Block) → map place_of (body_locals b) ≡ flat_map local_places b.statements
body_places b = map_flat place_of locals_in b.statements

pub if_places : (i : If) → map place_of (if_locals i) ≡ map place_of (body_locals (out-If i).then) ++ flat_map else_if_places (out-If i).others ++ map place_of (optional_locals (out-If i).otherwise)
if_places i =
    ap (map place_of) (if_all_locals i)
    ∙ map-append place_of (body_locals (out-If i).then ++ flat_map else_if_locals (out-If i).others) (optional_locals (out-If i).otherwise)
    ∙ ap (λ ps. ps ++ map place_of (optional_locals (out-If i).otherwise)) (map-append place_of (body_locals (out-If i).then) (flat_map else_if_locals (out-If i).others))
    ∙ ap (λ ps. (map place_of (body_locals (out-If i).then) ++ ps) ++ map place_of (optional_locals (out-If i).otherwise)) (map_flat place_of else_if_locals (out-If i).others)
