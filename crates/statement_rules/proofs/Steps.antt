-- Going through statements one after another, of which only the first that is broken is known.
use Rattle.std.proofs.Common.{◌≡◌, ◌<◌, ◌≤◌, ◌+◌, ◌∙◌, ◌++◌, ℕ, Bool, true, Option, None, Some, List, [], ◌∷◌, drop, take, flat_map, get_or, length, map, reverse, refl, sym, ap, add-one, arith}
use Rattle.std.proofs.Math.Seq.{take-append_seam}
use Rattle.std.proofs.lemmas.List.{drop_more, length-append, map-append, reverse-append, take-take}
use Rattle.slicc_ast.specs.declared.tree.statement.ElseIf.{ElseIf}
use Rattle.slicc_ast.specs.declared.tree.statement.Stmt.{Stmt, Declare}
use Rattle.slicc_ast.specs.declared.tree.span.Span.{Span}
use Rattle.slicc_ast.specs.declared.tree.name.Name.{Name}
use Rattle.slicc_ast.specs.declared.tree.name.TypeName.{TypeName}
use Rattle.slicc_ast.specs.declared.tree.expression.Expr.{Expr}
use Rattle.slicc_plan.specs.declared.broken.Broken.{Broken}
use Rattle.slicc_plan.specs.declared.built_in.BuiltInType.TheVariants.{Bool as Boolean}
use Rattle.slicc_plan.specs.Environment as plan
use Rattle.slicc_plan.specs.Prelude.{Environment, binding, broken_where, after, judged, local_meaning, statements_judged, Meaning, of_built_in, earlier_of_both, first_of}
use Rattle.slicc_plan.proofs.Firsts.{both-assoc_all, first_after-first_of, first_after-flat_map, first_of-append}
use Rattle.body_types.specs.declared.environment.Bound.{Bound}
use Rattle.body_types.specs.declared.environment.Environment as told
use Rattle.body_types.specs.Prelude.{bound_of, meaning_of}
use Rattle.statement_rules.specs.Prelude.{IsGrown, at, else_if_judged}

-- Statements.

pub statements_kept : (env later : Environment) (ss : List Stmt) (i : ℕ) (d : Stmt) (first next all : Option Broken) → i < length ss → next ≡ first_of (judged env (get_or ss i d)) → later ≡ after env (get_or ss i d) → earlier_of_both first (first_of (statements_judged env (drop i ss))) ≡ all → earlier_of_both (earlier_of_both first next) (first_of (statements_judged later (drop (i + 1) ss))) ≡ all
statements_kept env later ss i d first next all below is bound kept =
    let s = get_or ss i d in
    let rest = first_of (statements_judged (after env s) (drop (i + 1) ss)) in
    let front : first_of (statements_judged env (drop i ss)) ≡ earlier_of_both (first_of (judged env s)) rest =
    ap (λ ts. first_of (statements_judged env ts)) (drop_more ss i d below) ∙ first_of-append (judged env s) (statements_judged (after env s) (drop (i + 1) ss)) in
    ap (λ e. earlier_of_both (earlier_of_both first next) (first_of (statements_judged e (drop (i + 1) ss)))) bound
    ∙ both-assoc_all first next rest ∙ ap (λ o. earlier_of_both first (earlier_of_both o rest)) is
    ∙ ap (earlier_of_both first) (sym front) ∙ kept

pub statements_item : (env later : Environment) (ss : List Stmt) (i : ℕ) (d : Stmt) (first next all : Option Broken) → i < length ss → d ≡ get_or ss i d → next ≡ first_of (judged env d) → later ≡ after env d → earlier_of_both first (first_of (statements_judged env (drop i ss))) ≡ all → earlier_of_both (earlier_of_both first next) (first_of (statements_judged later (drop (i + 1) ss))) ≡ all
statements_item env later ss i d first next all below is one bound kept =
    statements_kept env later ss i d first next all below (one ∙ ap (λ s. first_of (judged env s)) is) (bound ∙ ap (after env) is) kept

-- `else if`.

pub others_kept : (env : Environment) (es : List ElseIf) (i : ℕ) (d : ElseIf) (first condition next : Option Broken) → i < length es → condition ≡ first_of (broken_where env (of_built_in Boolean) (get_or es i d).condition) → next ≡ first_of (statements_judged env (get_or es i d).then.statements) → first ≡ first_of (flat_map (else_if_judged env) (take i es)) → earlier_of_both (earlier_of_both first condition) next ≡ first_of (flat_map (else_if_judged env) (take (i + 1) es))
others_kept env es i d first condition next below one two kept =
    let e = get_or es i d in
    let own = broken_where env (of_built_in Boolean) e.condition in
    let held = statements_judged env e.then.statements in
    let here : earlier_of_both condition next ≡ first_of (else_if_judged env e) =
    ap (λ o. earlier_of_both o next) one ∙ ap (earlier_of_both (first_of own)) two ∙ sym (first_of-append own held) in
    both-assoc_all first condition next ∙ ap (earlier_of_both first) here
    ∙ ap (λ o. earlier_of_both o (first_of (else_if_judged env e))) kept
    ∙ sym (first_after-first_of (first_of (flat_map (else_if_judged env) (take i es))) (else_if_judged env e))
    ∙ sym (first_after-flat_map (else_if_judged env) es i d None below)

pub others_item : (env : Environment) (es : List ElseIf) (i : ℕ) (d : ElseIf) (first condition next : Option Broken) → i < length es → d ≡ get_or es i d → condition ≡ first_of (broken_where env (of_built_in Boolean) d.condition) → next ≡ first_of (statements_judged env d.then.statements) → first ≡ first_of (flat_map (else_if_judged env) (take i es)) → earlier_of_both (earlier_of_both first condition) next ≡ first_of (flat_map (else_if_judged env) (take (i + 1) es))
others_item env es i d first condition next below is one two kept =
    others_kept env es i d first condition next below (one ∙ ap (λ (e : ElseIf). first_of (broken_where env (of_built_in Boolean) e.condition)) is) (two ∙ ap (λ (e : ElseIf). first_of (statements_judged env e.then.statements)) is) kept

-- Names that are bound.

pub one_more : (xs : List Bound) (b : Bound) → reverse (map bound_of (xs ++ b ∷ [])) ≡ bound_of b ∷ reverse (map bound_of xs)
one_more xs b = ap reverse (map-append bound_of xs (b ∷ [])) ∙ reverse-append (map bound_of xs) (bound_of b ∷ [])

abbrev with_bound : Environment → List plan.Bound → Environment
with_bound env bound = record { trees = env.trees; machine = env.machine; body = env.body; answer = env.answer; bound = bound }

abbrev a_bound : List ℕ → Meaning → Bool → plan.Bound
a_bound name meaning is_local = record { name = name; meaning = meaning; is_local = is_local }

pub block_names : (e : told.Environment) (xs ys : List Bound) (b : Bound) → ys ≡ xs ++ b ∷ [] → at e ys ≡ binding (at e xs) (bound_of b)
block_names e xs ys b more = ap (at e) more ∙ ap (with_bound (at e xs)) (one_more xs b)

pub local_bound : (e : told.Environment) (xs ys : List Bound) (b : Bound) (s : Stmt) (kind : TypeName) (called : Name) (value : Expr) (span : Span) (there : Environment)
    → ys ≡ xs ++ b ∷ [] → b.name.now ≡ called.text → meaning_of b.meaning ≡ local_meaning there kind → there ≡ at e xs → b.is_local ≡ true → s ≡ Declare kind called value span → at e ys ≡ after (at e xs) s
local_bound e xs ys b s kind called value span there more named meaning same local is =
    block_names e xs ys b more
    ∙ ap (λ n. binding (at e xs) (a_bound n (meaning_of b.meaning) b.is_local)) named
    ∙ ap (λ m. binding (at e xs) (a_bound called.text m b.is_local)) (meaning ∙ ap (λ v. local_meaning v kind) same)
    ∙ ap (λ l. binding (at e xs) (a_bound called.text (local_meaning (at e xs) kind) l)) local
    ∙ ap (after (at e xs)) (sym is)

pub grown_push : (xs : List Bound) (b : Bound) → IsGrown xs (xs ++ b ∷ [])
grown_push xs b = record {
  long = let n = length-append xs (b ∷ []) in omega (arith, n);
  same = take-append_seam xs (b ∷ []);
}

pub grown_more : (xs ys zs : List Bound) → IsGrown xs ys → IsGrown ys zs → IsGrown xs zs
grown_more xs ys zs one two =
    let m = one.long in
    let n = two.long in
    record {
      long = omega (arith, m, n);
      same = sym (take-take (length xs) (length ys) zs one.long) ∙ ap (take (length xs)) two.same ∙ one.same;
    }
