use Rattle.std.proofs.Common.{rules, ◌≡◌, ◌∙◌, ap, sym, flat_map}
use Rattle.slicc_ast.specs.declared.tree.statement.Stmt.TheViews.{the_lemmas}
use Rattle.slicc_plan.specs.Prelude.{first_of, returns_in}
use Rattle.body_rules.specs.Prelude.{arm_returns, wrong_among}
use Rattle.body_rules.proofs.ReturnRows.{returning_row, wrong_step}
use Rattle.body_rules.proofs.returning.+returning.Goals as goal

pub wrong_return-returns-in-Peek : goal.wrong_return-returns-in-Peek
wrong_return-returns-in-Peek t c =
    let same : returns_in c.args.s.now ≡ flat_map returns_in c.in-Peek.body.statements = search (rules, the_lemmas, returning_row) in
    c.wrong_in_statements.ensures
    ∙ ap (λ ss. first_of (wrong_among c.args.is_wanted (flat_map returns_in ss))) c.deref.ensures
    ∙ ap (λ rs. first_of (wrong_among c.args.is_wanted rs)) (sym same)

pub wrong_in_statements-loop-s-preserved : goal.wrong_in_statements-loop-s-preserved
wrong_in_statements-loop-s-preserved t c =
    wrong_step c.args.is_wanted returns_in c.args.statements.now c.loop-s.s-index c.s-item.result c.loop-s.first c.wrong_return.result c.earlier_of_two-first.result
    c.loop-s-test.true c.s-item.is c.earlier_of_two-first.ensures c.wrong_return.ensures c.loop-s.invariant

pub wrong_in_others-loop-other-preserved : goal.wrong_in_others-loop-other-preserved
wrong_in_others-loop-other-preserved t c =
    wrong_step c.args.is_wanted arm_returns c.args.others.now c.loop-other.other-index c.other-item.result c.loop-other.first c.wrong_in_statements.result c.earlier_of_two-first.result
    c.loop-other-test.true c.other-item.is c.earlier_of_two-first.ensures
    (c.wrong_in_statements.ensures ∙ ap (λ ss. first_of (wrong_among c.args.is_wanted (flat_map returns_in ss))) c.deref.ensures)
    c.loop-other.invariant
