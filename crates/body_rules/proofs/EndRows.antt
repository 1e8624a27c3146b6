-- The rows of a tree end where its items do, one after another.
use Rattle.std.proofs.Common.{rules, ◌≡◌, ◌<◌, ◌+◌, ◌&&◌, ◌||◌, ℕ, Bool, false, Option, None, Some, List, drop, get_or, length, refl, ap}
use Rattle.std.proofs.lemmas.List.{drop_more}
use Rattle.std.specs.List.{list_all, list_any}
use Rattle.slicc_ast.specs.declared.tree.statement.Block.{Block}
use Rattle.slicc_ast.specs.declared.tree.statement.If.{If, If', None', Some', Row_of-ElseIf, end_of-ElseIf, more_of-ElseIf, items-the_row-ElseIf, out-If}
use Rattle.slicc_ast.specs.declared.tree.statement.Stmt.{Row_of-Stmt, end_of-Stmt, more_of-Stmt, items-the_row-Stmt}
use Rattle.slicc_ast.specs.declared.tree.statement.Stmt.TheViews.{the_lemmas}
use Rattle.slicc_plan.specs.Prelude.{ends, if_ends, others_end, row_ends}
use Rattle.body_rules.specs.Prelude.{arm_ends}

pub ending_row : (n : _) (row : Row_of-Stmt n) → row_ends row ≡ list_any ends (items-the_row-Stmt n row)
ending_row n end_of-Stmt = refl
ending_row n (more_of-Stmt first row) = ap (λ v. ends first || v) (ending_row _ row)

pub ending_others : (n : _) (row : Row_of-ElseIf n) → others_end row ≡ list_all arm_ends (items-the_row-ElseIf n row)
ending_others n end_of-ElseIf = refl
ending_others n (more_of-ElseIf condition shape inner block more) =
    let later = ending_others _ more in
    let held = ending_row _ inner in
    search (rules, the_lemmas, later, held)

abbrev pub else_ends : Option Block → Bool
else_ends None = false
else_ends (Some b) = list_any ends b.statements

pub ending_if : (i : If) → if_ends i ≡ (list_any ends (out-If i).then.statements && (list_all arm_ends (out-If i).others && else_ends (out-If i).otherwise))
ending_if (If' condition shape row block n others None' span) = search (rules, the_lemmas, ending_row, ending_others)
ending_if (If' condition shape row block n others (Some' s r b) span) = search (rules, the_lemmas, ending_row, ending_others)

-- One more step through a list.

pub any_step : {X : Type 0} (p : X → Bool) (xs : List X) (i : ℕ) (d : X) → i < length xs → list_any p (drop i xs) ≡ (p (get_or xs i d) || list_any p (drop (i + 1) xs))
any_step p xs i d below = ap (list_any p) (drop_more xs i d below)

pub all_step : {X : Type 0} (p : X → Bool) (xs : List X) (i : ℕ) (d : X) → i < length xs → list_all p (drop i xs) ≡ (p (get_or xs i d) && list_all p (drop (i + 1) xs))
all_step p xs i d below = ap (list_all p) (drop_more xs i d below)

pub ruleset rules_of_ends = (ending_row, ending_others, ending_if, any_step, all_step)
