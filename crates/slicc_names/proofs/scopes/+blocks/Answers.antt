use Rattle.std.proofs.Common.{rules, ◌++◌, [], ap, ◌∙◌, sym, append-nil, flat_map}
use Rattle.std.proofs.lemmas.Result.{IfOk-weaker}
use Rattle.slicc_ast.specs.declared.tree.statement.If.{out-If}
use Rattle.slicc_ast.specs.declared.tree.statement.Stmt.TheViews.{the_lemmas}
use Rattle.slicc_names.specs.Prelude.{else_if_scopes}
use Rattle.slicc_plan.specs.Prelude.{blocks_in, body_scopes, local_of, first_after, repeated}
use Rattle.slicc_names.proofs.BlockScopes.{if_scopes, optional_scopes, locals_of_row, blocks_of_row}
use Rattle.slicc_names.proofs.Steps.{told_in_body, told_in_both, told_in_three, told_in_taken}
use Rattle.slicc_names.proofs.scopes.+blocks.Goals as goal

pub in_block-returns : goal.in_block-returns
in_block-returns t c =
    IfOk-weaker c.in_statements.result _ _
    (λ r told. told_in_body (flat_map local_of c.args.b.now.statements) (flat_map blocks_in c.args.b.now.statements) c.args.first c.in_ok-first.first r
    (c.in_ok-first.ensures ∙ ap (first_after c.args.first) (append-nil (repeated (flat_map local_of c.deref.result.now)))
    ∙ ap (λ ss. first_after c.args.first (repeated (flat_map local_of ss))) c.deref.ensures)
    (told ∙ ap (λ ss. first_after c.in_ok-first.first (flat_map repeated (flat_map blocks_in ss))) c.deref-2.ensures))
    c.in_statements.ensures

pub in_if-returns-in-Some : goal.in_if-returns-in-Some
in_if-returns-in-Some t c =
    IfOk-weaker c.in_block-in-Some.result _ _
    (λ r told.
    told_in_three (body_scopes [] (out-If c.args.i.now).then) (flat_map else_if_scopes (out-If c.args.i.now).others) (body_scopes [] c.in-Some.block) c.args.first c.in_ok-first.first c.in_ok-first-2.first r
    c.in_ok-first.ensures (c.in_ok-first-2.ensures ∙ ap (λ es. first_after c.in_ok-first.first (flat_map repeated (flat_map else_if_scopes es))) c.deref.ensures) told
    ∙ ap (λ o. first_after c.args.first (flat_map repeated (body_scopes [] (out-If c.args.i.now).then ++ flat_map else_if_scopes (out-If c.args.i.now).others ++ optional_scopes o))) (sym c.in-Some.is)
    ∙ ap (λ xs. first_after c.args.first (flat_map repeated xs)) (sym (if_scopes c.args.i.now)))
    c.in_block-in-Some.ensures

pub in_if-returns-in-None : goal.in_if-returns-in-None
in_if-returns-in-None t c =
    told_in_both (body_scopes [] (out-If c.args.i.now).then) (flat_map else_if_scopes (out-If c.args.i.now).others) c.args.first c.in_ok-first.first c.in_ok-first-2.first
    c.in_ok-first.ensures (c.in_ok-first-2.ensures ∙ ap (λ es. first_after c.in_ok-first.first (flat_map repeated (flat_map else_if_scopes es))) c.deref.ensures)
    ∙ ap (λ xs. first_after c.args.first (flat_map repeated xs)) (sym (append-nil (body_scopes [] (out-If c.args.i.now).then ++ flat_map else_if_scopes (out-If c.args.i.now).others)))
    ∙ ap (λ o. first_after c.args.first (flat_map repeated (body_scopes [] (out-If c.args.i.now).then ++ flat_map else_if_scopes (out-If c.args.i.now).others ++ optional_scopes o))) (sym c.in-None.is)
    ∙ ap (λ xs. first_after c.args.first (flat_map repeated xs)) (sym (if_scopes c.args.i.now))

pub in_others-loop-other-preserved : goal.in_others-loop-other-preserved
in_others-loop-other-preserved t c =
    told_in_taken else_if_scopes c.args.others.now c.loop-other.other-index c.other-item.result c.args.first c.loop-other.first c.in_ok-first.first
    c.loop-other-test.true c.other-item.is c.loop-other.invariant c.in_ok-first.ensures

pub in_statement-returns-in-Peek : goal.in_statement-returns-in-Peek
in_statement-returns-in-Peek t c = search (rules, the_lemmas, locals_of_row, blocks_of_row)

pub in_statements-loop-s-preserved : goal.in_statements-loop-s-preserved
in_statements-loop-s-preserved t c =
    told_in_taken blocks_in c.args.statements.now c.loop-s.s-index c.s-item.result c.args.first c.loop-s.first c.in_ok-first.first
    c.loop-s-test.true c.s-item.is c.loop-s.invariant c.in_ok-first.ensures
