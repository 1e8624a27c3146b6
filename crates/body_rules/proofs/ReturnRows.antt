-- The `return` statements in the rows of a tree are those in its items, one after another.
use Rattle.std.proofs.Common.{rules, ◌≡◌, ◌<◌, ◌+◌, ◌++◌, ℕ, Bool, Option, None, Some, List, [], ◌∷◌, cond, not, filter, flat_map, map, take, get_or, length, refl, sym, ap, ◌∙◌, add-one, append-nil}
use Rattle.std.proofs.Math.Seq.{take-suc}
use Rattle.std.proofs.lemmas.Grind.{flat_map-append}
use Rattle.std.proofs.lemmas.List.{map-append}
use Rattle.std.proofs.lemmas.List.Elements.{filter-append}
use Rattle.slicc_ast.specs.declared.tree.statement.Block.{Block}
use Rattle.slicc_ast.specs.declared.tree.statement.If.{If, If', None', Some', Row_of-ElseIf, end_of-ElseIf, more_of-ElseIf, items-the_row-ElseIf, out-If}
use Rattle.slicc_ast.specs.declared.tree.statement.Stmt.{Row_of-Stmt, end_of-Stmt, more_of-Stmt, items-the_row-Stmt}
use Rattle.slicc_ast.specs.declared.tree.statement.Stmt.TheViews.{the_lemmas}
use Rattle.slicc_plan.specs.declared.broken.Broken.{Broken}
use Rattle.slicc_plan.specs.Prelude.{earlier_of_both, first_of, ReturnAt, if_returns, no_return, others_returns, returns_in, row_returns}
use Rattle.slicc_plan.proofs.Firsts.{both-assoc_all, first_of-append}
use Rattle.body_rules.specs.Prelude.{arm_returns, wrong_among}

pub returning_row : (n : _) (row : Row_of-Stmt n) → row_returns row ≡ flat_map returns_in (items-the_row-Stmt n row)
returning_row n end_of-Stmt = refl
returning_row n (more_of-Stmt first row) = ap (λ rs. returns_in first ++ rs) (returning_row _ row)

pub returning_others : (n : _) (row : Row_of-ElseIf n) → others_returns row ≡ flat_map arm_returns (items-the_row-ElseIf n row)
returning_others n end_of-ElseIf = refl
returning_others n (more_of-ElseIf condition shape inner block more) =
    let later = returning_others _ more in
    let held = returning_row _ inner in
    search (rules, the_lemmas, later, held)

abbrev pub else_returns : Option Block → List ReturnAt
else_returns None = []
else_returns (Some b) = flat_map returns_in b.statements

pub returning_if : (i : If) → if_returns i ≡ (flat_map returns_in (out-If i).then.statements ++ flat_map arm_returns (out-If i).others) ++ else_returns (out-If i).otherwise
returning_if (If' condition shape row block n others None' span) =
    let i : If = If' condition shape row block n others None' span in
    let held = returning_row _ row in
    let more = returning_others _ others in
    let one : flat_map returns_in (out-If i).then.statements ≡ row_returns row = search (rules, the_lemmas, held) in
    let two : flat_map arm_returns (out-If i).others ≡ others_returns others = search (rules, the_lemmas, more) in
    let three : else_returns (out-If i).otherwise ≡ [] = search (rules, the_lemmas) in
    sym (ap (λ rs. (rs ++ flat_map arm_returns (out-If i).others) ++ else_returns (out-If i).otherwise) one
    ∙ ap (λ rs. (row_returns row ++ rs) ++ else_returns (out-If i).otherwise) two
    ∙ ap (λ rs. (row_returns row ++ others_returns others) ++ rs) three)
returning_if (If' condition shape row block n others (Some' s r b) span) =
    let i : If = If' condition shape row block n others (Some' s r b) span in
    let held = returning_row _ row in
    let more = returning_others _ others in
    let last = returning_row _ r in
    let one : flat_map returns_in (out-If i).then.statements ≡ row_returns row = search (rules, the_lemmas, held) in
    let two : flat_map arm_returns (out-If i).others ≡ others_returns others = search (rules, the_lemmas, more) in
    let three : else_returns (out-If i).otherwise ≡ row_returns r = search (rules, the_lemmas, last) in
    sym (ap (λ rs. (rs ++ flat_map arm_returns (out-If i).others) ++ else_returns (out-If i).otherwise) one
    ∙ ap (λ rs. (row_returns row ++ rs) ++ else_returns (out-If i).otherwise) two
    ∙ ap (λ rs. (row_returns row ++ others_returns others) ++ rs) three)

-- The first that is wrong among them.

wrong_append : (is_wanted : Bool) (xs ys : List ReturnAt) → wrong_among is_wanted (xs ++ ys) ≡ wrong_among is_wanted xs ++ wrong_among is_wanted ys
wrong_append is_wanted xs ys =
    let p : ReturnAt → Bool = λ r. cond is_wanted (not r.has_value) r.has_value in
    ap (map (λ (r : ReturnAt). no_return r.place)) (filter-append p xs ys) ∙ map-append (λ (r : ReturnAt). no_return r.place) (filter p xs) (filter p ys)

pub first_wrong_append : (is_wanted : Bool) (xs ys : List ReturnAt) → first_of (wrong_among is_wanted (xs ++ ys)) ≡ earlier_of_both (first_of (wrong_among is_wanted xs)) (first_of (wrong_among is_wanted ys))
first_wrong_append is_wanted xs ys =
    ap first_of (wrong_append is_wanted xs ys) ∙ first_of-append (wrong_among is_wanted xs) (wrong_among is_wanted ys)

pub first_wrong_more : {X : Type 0} (is_wanted : Bool) (f : X → List ReturnAt) (xs : List X) (i : ℕ) (d : X) → i < length xs → first_of (wrong_among is_wanted (flat_map f (take (i + 1) xs))) ≡ earlier_of_both (first_of (wrong_among is_wanted (flat_map f (take i xs)))) (first_of (wrong_among is_wanted (f (get_or xs i d))))
first_wrong_more is_wanted f xs i d below =
    let taken : take (i + 1) xs ≡ take i xs ++ get_or xs i d ∷ [] = rw (add-one, take-suc xs i d below) refl in
    let flat : flat_map f (take (i + 1) xs) ≡ flat_map f (take i xs) ++ f (get_or xs i d) =
    rw (taken, flat_map-append f (take i xs) (get_or xs i d ∷ []), append-nil (f (get_or xs i d))) refl in
    ap (λ rs. first_of (wrong_among is_wanted rs)) flat ∙ first_wrong_append is_wanted (flat_map f (take i xs)) (f (get_or xs i d))

-- one more step of a loop that has the first of those before it
pub wrong_step : {X : Type 0} (is_wanted : Bool) (f : X → List ReturnAt) (xs : List X) (i : ℕ) (x : X) (p q r : Option Broken) → i < length xs → x ≡ get_or xs i x → r ≡ earlier_of_both p q → q ≡ first_of (wrong_among is_wanted (f x)) → p ≡ first_of (wrong_among is_wanted (flat_map f (take i xs)))
    → r ≡ first_of (wrong_among is_wanted (flat_map f (take (i + 1) xs)))
wrong_step is_wanted f xs i x p q r below at both own before =
    both ∙ ap (λ o. earlier_of_both o q) before
    ∙ ap (earlier_of_both (first_of (wrong_among is_wanted (flat_map f (take i xs))))) (own ∙ ap (λ y. first_of (wrong_among is_wanted (f y))) at)
    ∙ sym (first_wrong_more is_wanted f xs i x below)

pub ruleset rules_of_returns = (returning_row, returning_others, returning_if, first_wrong_append, first_wrong_more, both-assoc_all, first_of-append)
