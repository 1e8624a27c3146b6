use Rattle.std.proofs.Common.{ℕ, List, subst, sym, ◌∙◌}
use Rattle.std.specs.Option.{option_copied}
use Rattle.trace_print.specs.Prelude.{IsAdded, spaced}
use Rattle.trace_print.proofs.RowParts.{some_actions}
use Rattle.trace_print.proofs.rows.add_actions.Goals as goal

pub returns : goal.returns
returns g c =
    let P : List (List ℕ) → Type 0 = λ words. IsAdded g.S.Sink.writes c.args.sink.now c.args.line.now.items (spaced words) c.add_each.result c.add_each.new.sink c.add_each.new.line.items in
    subst P (sym (some_actions (option_copied c.args.m) c.args.actions.now (sym c.is_empty.ensures ∙ c.if-is_empty.false))) c.add_each.ensures
