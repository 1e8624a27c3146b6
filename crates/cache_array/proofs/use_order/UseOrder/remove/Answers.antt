use Rattle.std.proofs.Common.{eqb, sym, ◌∙◌}
use Rattle.cache_array.proofs.Lines.{kept, found, absent, remove_nowhere}
use Rattle.cache_array.proofs.use_order.UseOrder.remove.Goals as goal

pub returns-in_err-at-clause-fields : goal.returns-in_err-at-clause-fields
returns-in_err-at-clause-fields c = c.from_residual.ensures ∙ sym (absent c.args.self.now.kept c.args.line (sym c.in_err-at.ensures))

pub returns-in_err-at-clause-after : goal.returns-in_err-at-clause-after
returns-in_err-at-clause-after c = sym (remove_nowhere (λ l. eqb l c.args.line) c.args.self.now.kept (absent c.args.self.now.kept c.args.line (sym c.in_err-at.ensures)))

pub returns-clause-fields : goal.returns-clause-fields
returns-clause-fields c = rw (← c.self.view_is) (sym (found (kept c.self.view_is) c.in_ok-at.ensures c.remove.ensures.value).looked_up)

pub returns-clause-after : goal.returns-clause-after
returns-clause-after c =
    rw (c.remove.ensures.items, ← c.self.view_is) (sym (found (kept c.self.view_is) c.in_ok-at.ensures c.remove.ensures.value).removed)
