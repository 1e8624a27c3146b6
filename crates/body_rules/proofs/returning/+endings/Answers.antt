use Rattle.std.proofs.Common.{rules, ◌≡◌, ◌∙◌, ap, sym}
use Rattle.std.specs.List.{list_any}
use Rattle.slicc_ast.specs.declared.tree.statement.Stmt.TheViews.{the_lemmas}
use Rattle.slicc_plan.specs.Prelude.{ends}
use Rattle.body_rules.proofs.EndRows.{ending_row}
use Rattle.body_rules.proofs.returning.+endings.Goals as goal

pub ends-returns-in-Peek : goal.ends-returns-in-Peek
ends-returns-in-Peek t c =
    let same : ends c.args.s.now ≡ list_any ends c.in-Peek.body.statements = search (rules, the_lemmas, ending_row) in
    c.statements_end.ensures ∙ ap (list_any ends) c.deref.ensures ∙ sym same
