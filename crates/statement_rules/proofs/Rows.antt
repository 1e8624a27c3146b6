-- What is broken in the rows of a tree is what is broken in its items, one after another.
use Rattle.std.proofs.lemmas.Result.{IfOk-weaker}
use Rattle.std.proofs.Common.{rules, ◌≡◌, IfOk, Result, Option, None, Some, List, [], ◌∷◌, ◌++◌, flat_map, refl, sym, ap, ◌∙◌, append_assoc, append-nil}
use Rattle.slicc_ast.specs.declared.tree.span.Span.{Span}
use Rattle.slicc_ast.specs.declared.tree.name.Name.{Name}
use Rattle.slicc_ast.specs.declared.tree.name.TypeName.{TypeName}
use Rattle.slicc_ast.specs.declared.tree.declaration.Pairs.{Pairs}
use Rattle.slicc_ast.specs.declared.tree.expression.Expr.{Expr}
use Rattle.slicc_ast.specs.declared.tree.statement.Block.{Block}
use Rattle.slicc_ast.specs.declared.tree.statement.If.{If, If', None', Some', Row_of-ElseIf, end_of-ElseIf, more_of-ElseIf, items-the_row-ElseIf, out-If}
use Rattle.slicc_ast.specs.declared.tree.statement.Stmt.{Stmt, Peek, Enqueue, Row_of-Stmt, end_of-Stmt, more_of-Stmt, items-the_row-Stmt}
use Rattle.slicc_ast.specs.declared.tree.statement.Stmt.TheViews.{the_lemmas}
use Rattle.slicc_plan.specs.declared.broken.Broken.{Broken}
use Rattle.slicc_plan.specs.declared.built_in.BuiltInType.TheVariants.{Bool}
use Rattle.slicc_plan.specs.Prelude.{Environment, broken_where, after, enqueued, if_judged, in_enqueue, in_peek, judged, others_judged, otherwise_judged, peeked, row_judged, statements_judged, of_built_in, earlier_of_both, first_of}
use Rattle.slicc_plan.proofs.Firsts.{both-assoc_all, first_of-append}
use Rattle.statement_rules.specs.Prelude.{else_if_judged}

pub judged_row : (env : Environment) (n : _) (row : Row_of-Stmt n) → row_judged env row ≡ statements_judged env (items-the_row-Stmt n row)
judged_row env n end_of-Stmt = refl
judged_row env n (more_of-Stmt first row) = ap (λ bs. judged env first ++ bs) (judged_row (after env first) _ row)

-- what is told of a statement of a form, by what the form means
pub told_form : {E : Type 0} (f : Environment → List Broken) (env there : Environment) (s form : Stmt) (r : Result (Option Broken) E) → IfOk r (λ first. first ≡ first_of (f there)) → there ≡ env → s ≡ form → judged env form ≡ f env → IfOk r (λ first. first ≡ first_of (judged env s))
told_form f env there s form r told same is means =
    IfOk-weaker r (λ first. first ≡ first_of (f there)) (λ first. first ≡ first_of (judged env s))
    (λ first t. t ∙ ap (λ e. first_of (f e)) same ∙ ap first_of (sym means) ∙ ap (λ x. first_of (judged env x)) (sym is)) told

pub judged_peek : (env : Environment) (port : Name) (message : TypeName) (attributes : Pairs) (body : Block) (span : Span) → judged env (Peek port message attributes body span) ≡ peeked env span port message ++ statements_judged (in_peek env port) body.statements
judged_peek env port message attributes body span =
    let row = judged_row (in_peek env port) in
    search (rules, the_lemmas, row)

pub judged_enqueue : (env : Environment) (port : Name) (message : TypeName) (latency : Option Expr) (body : Block) (span : Span) → judged env (Enqueue port message latency body span) ≡ enqueued env span port message latency ++ statements_judged (in_enqueue env port) body.statements
judged_enqueue env port message latency body span =
    let row = judged_row (in_enqueue env port) in
    search (rules, the_lemmas, row)

pub judged_others : (env : Environment) (n : _) (row : Row_of-ElseIf n) → others_judged env row ≡ flat_map (else_if_judged env) (items-the_row-ElseIf n row)
judged_others env n end_of-ElseIf = refl
judged_others env n (more_of-ElseIf condition shape inner block more) =
    let later = judged_others env _ more in
    let held = judged_row env _ inner in
    search (rules, the_lemmas, later, held, append_assoc)

abbrev pub else_judged : Environment → Option Block → List Broken
else_judged env None = []
else_judged env (Some b) = statements_judged env b.statements

pub judged_if : (env : Environment) (i : If) → if_judged env i ≡ ((broken_where env (of_built_in Bool) (out-If i).condition ++ statements_judged env (out-If i).then.statements) ++ flat_map (else_if_judged env) (out-If i).others) ++ else_judged env (out-If i).otherwise
judged_if env (If' condition shape row block n others None' span) =
    let i : If = If' condition shape row block n others None' span in
    let held = judged_row env _ row in
    let more = judged_others env _ others in
    let one : (out-If i).condition ≡ condition = search (rules, the_lemmas) in
    let two : statements_judged env (out-If i).then.statements ≡ row_judged env row = search (rules, the_lemmas, held) in
    let three : flat_map (else_if_judged env) (out-If i).others ≡ others_judged env others = search (rules, the_lemmas, more) in
    let four : else_judged env (out-If i).otherwise ≡ [] = search (rules, the_lemmas) in
    sym (ap (λ e. ((broken_where env (of_built_in Bool) e ++ statements_judged env (out-If i).then.statements) ++ flat_map (else_if_judged env) (out-If i).others) ++ else_judged env (out-If i).otherwise) one
    ∙ ap (λ bs. ((broken_where env (of_built_in Bool) condition ++ bs) ++ flat_map (else_if_judged env) (out-If i).others) ++ else_judged env (out-If i).otherwise) two
    ∙ ap (λ bs. ((broken_where env (of_built_in Bool) condition ++ row_judged env row) ++ bs) ++ else_judged env (out-If i).otherwise) three
    ∙ ap (λ bs. ((broken_where env (of_built_in Bool) condition ++ row_judged env row) ++ others_judged env others) ++ bs) four)
judged_if env (If' condition shape row block n others (Some' s r b) span) =
    let i : If = If' condition shape row block n others (Some' s r b) span in
    let held = judged_row env _ row in
    let more = judged_others env _ others in
    let last = judged_row env _ r in
    let one : (out-If i).condition ≡ condition = search (rules, the_lemmas) in
    let two : statements_judged env (out-If i).then.statements ≡ row_judged env row = search (rules, the_lemmas, held) in
    let three : flat_map (else_if_judged env) (out-If i).others ≡ others_judged env others = search (rules, the_lemmas, more) in
    let four : else_judged env (out-If i).otherwise ≡ row_judged env r = search (rules, the_lemmas, last) in
    sym (ap (λ e. ((broken_where env (of_built_in Bool) e ++ statements_judged env (out-If i).then.statements) ++ flat_map (else_if_judged env) (out-If i).others) ++ else_judged env (out-If i).otherwise) one
    ∙ ap (λ bs. ((broken_where env (of_built_in Bool) condition ++ bs) ++ flat_map (else_if_judged env) (out-If i).others) ++ else_judged env (out-If i).otherwise) two
    ∙ ap (λ bs. ((broken_where env (of_built_in Bool) condition ++ row_judged env row) ++ bs) ++ else_judged env (out-If i).otherwise) three
    ∙ ap (λ bs. ((broken_where env (of_built_in Bool) condition ++ row_judged env row) ++ others_judged env others) ++ bs) four)

pub ruleset rules_of_rows = (judged_row, judged_others, judged_if)

-- The first in an `if`, where those of its arms are known.

abbrev arms : Environment → If → Option Block → List Broken
arms env i o = ((broken_where env (of_built_in Bool) (out-If i).condition ++ statements_judged env (out-If i).then.statements) ++ flat_map (else_if_judged env) (out-If i).others) ++ else_judged env o

first_of_four : (xs ys zs ws : List Broken) (p q r s : Option Broken) → p ≡ first_of xs → q ≡ first_of ys → r ≡ first_of zs → s ≡ first_of ws → earlier_of_both (earlier_of_both (earlier_of_both p q) r) s ≡ first_of (((xs ++ ys) ++ zs) ++ ws)
first_of_four xs ys zs ws p q r s a b c d =
    ap (λ o. earlier_of_both (earlier_of_both (earlier_of_both o q) r) s) a
    ∙ ap (λ o. earlier_of_both (earlier_of_both (earlier_of_both (first_of xs) o) r) s) b
    ∙ ap (λ o. earlier_of_both (earlier_of_both o r) s) (sym (first_of-append xs ys))
    ∙ ap (λ o. earlier_of_both (earlier_of_both (first_of (xs ++ ys)) o) s) c
    ∙ ap (λ o. earlier_of_both o s) (sym (first_of-append (xs ++ ys) zs))
    ∙ ap (earlier_of_both (first_of ((xs ++ ys) ++ zs))) d
    ∙ sym (first_of-append ((xs ++ ys) ++ zs) ws)

pub if_some : (env : Environment) (i : If) (b : Block) (condition held others otherwise : Option Broken) → (out-If i).otherwise ≡ Some b → condition ≡ first_of (broken_where env (of_built_in Bool) (out-If i).condition) → held ≡ first_of (statements_judged env (out-If i).then.statements) → others ≡ first_of (flat_map (else_if_judged env) (out-If i).others) → otherwise ≡ first_of (statements_judged env b.statements) → earlier_of_both (earlier_of_both (earlier_of_both condition held) others) otherwise ≡ first_of (if_judged env i)
if_some env i b condition held others otherwise is one two more last =
    first_of_four (broken_where env (of_built_in Bool) (out-If i).condition) (statements_judged env (out-If i).then.statements) (flat_map (else_if_judged env) (out-If i).others) (statements_judged env b.statements) condition held others otherwise one two more last
    ∙ ap (λ o. first_of (arms env i o)) (sym is) ∙ ap first_of (sym (judged_if env i))

pub if_none : (env : Environment) (i : If) (condition held others : Option Broken) → (out-If i).otherwise ≡ None → condition ≡ first_of (broken_where env (of_built_in Bool) (out-If i).condition) → held ≡ first_of (statements_judged env (out-If i).then.statements) → others ≡ first_of (flat_map (else_if_judged env) (out-If i).others) → earlier_of_both (earlier_of_both condition held) others ≡ first_of (if_judged env i)
if_none env i condition held others is one two more =
    first_of_four (broken_where env (of_built_in Bool) (out-If i).condition) (statements_judged env (out-If i).then.statements) (flat_map (else_if_judged env) (out-If i).others) [] condition held others None one two more refl
    ∙ ap (λ o. first_of (arms env i o)) (sym is) ∙ ap first_of (sym (judged_if env i))
