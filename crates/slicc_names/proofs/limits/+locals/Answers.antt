use Rattle.std.proofs.Common.{rules, List, ◌++◌, map, flat_map, append-nil, ap, sym, ◌∙◌}
use Rattle.slicc_ast.specs.declared.tree.span.Span.{Span}
use Rattle.slicc_ast.specs.declared.tree.statement.If.{out-If}
use Rattle.slicc_ast.specs.declared.tree.statement.Stmt.TheViews.{the_lemmas}
use Rattle.slicc_plan.specs.Prelude.{body_locals, place_of}
use Rattle.slicc_names.specs.Prelude.{else_if_places, found_after, local_places}
use Rattle.slicc_names.proofs.Counts.{found_both, found_on}
use Rattle.slicc_names.proofs.LocalPlaces.{all_of_row, body_places, if_places, optional_locals}
use Rattle.slicc_names.proofs.limits.+locals.Goals as goal

pub count_locals-returns : goal.count_locals-returns
count_locals-returns t c =
    c.in_statements.ensures ∙ ap (λ ss. found_after c.args.found (flat_map local_places ss)) c.deref.ensures
    ∙ ap (found_after c.args.found) (sym (body_places c.args.b.now))

pub in_if-returns-in-None : goal.in_if-returns-in-None
in_if-returns-in-None t c =
    let then : List Span = map place_of (body_locals (out-If c.args.i.now).then) in
    let others : List Span = flat_map else_if_places (out-If c.args.i.now).others in
    found_both then others c.args.found c.count_locals-then.result c.in_others-others.result c.count_locals-then.ensures
    (c.in_others-others.ensures ∙ ap (λ es. found_after c.count_locals-then.result (flat_map else_if_places es)) c.deref.ensures)
    ∙ ap (found_after c.args.found) (sym (append-nil (then ++ others)))
    ∙ ap (λ o. found_after c.args.found (then ++ others ++ map place_of (optional_locals o))) (sym c.in-None.is)
    ∙ ap (found_after c.args.found) (sym (if_places c.args.i.now))

pub in_if-returns-in-Some : goal.in_if-returns-in-Some
in_if-returns-in-Some t c =
    let then : List Span = map place_of (body_locals (out-If c.args.i.now).then) in
    let others : List Span = flat_map else_if_places (out-If c.args.i.now).others in
    found_both (then ++ others) (map place_of (body_locals c.in-Some.block)) c.args.found c.in_others-others.result c.count_locals.result
    (found_both then others c.args.found c.count_locals-then.result c.in_others-others.result c.count_locals-then.ensures
    (c.in_others-others.ensures ∙ ap (λ es. found_after c.count_locals-then.result (flat_map else_if_places es)) c.deref.ensures))
    c.count_locals.ensures
    ∙ ap (λ o. found_after c.args.found (then ++ others ++ map place_of (optional_locals o))) (sym c.in-Some.is)
    ∙ ap (found_after c.args.found) (sym (if_places c.args.i.now))

pub in_others-loop-other-preserved : goal.in_others-loop-other-preserved
in_others-loop-other-preserved t c =
    found_on else_if_places c.args.others.now c.loop-other.other-index c.other-item.result c.args.found c.loop-other.found c.count_locals-found.result
    c.loop-other-test.true c.other-item.is c.loop-other.invariant c.count_locals-found.ensures

pub in_statement-returns-in-Peek : goal.in_statement-returns-in-Peek
in_statement-returns-in-Peek t c = search (rules, the_lemmas, all_of_row)

pub in_statements-loop-s-preserved : goal.in_statements-loop-s-preserved
in_statements-loop-s-preserved t c =
    found_on local_places c.args.statements.now c.loop-s.s-index c.s-item.result c.args.found c.loop-s.found c.in_statement-found.result
    c.loop-s-test.true c.s-item.is c.loop-s.invariant c.in_statement-found.ensures
