use Rattle.std.proofs.Common.{refl, sym, ap}
use Rattle.std.specs.Option.{is_some}
use Rattle.std.proofs.lemmas.List.{append-nil}
use Rattle.cache_array.proofs.Lines.{kept, found, absent, remove_nowhere}
use Rattle.cache_array.proofs.use_order.UseOrder.make_recent.Goals as goal

pub returns-in_default-clause-found : goal.returns-in_default-clause-found
returns-in_default-clause-found c = ap is_some (sym (absent c.args.self.now.kept c.args.line (sym c.in_default.ensures)))

pub returns-in_default-clause-after : goal.returns-in_default-clause-after
returns-in_default-clause-after c =
    let none = absent c.args.self.now.kept c.args.line (sym c.in_default.ensures) in
    rw (none, remove_nowhere _ _ none) (sym (append-nil _))

pub returns-clause-found : goal.returns-clause-found
returns-clause-found c = rw (← c.self.view_is) (ap is_some (sym (found (kept c.self.view_is) c.in-Some.ensures c.remove-used.ensures.value).looked_up))

pub returns-clause-after : goal.returns-clause-after
returns-clause-after c =
    let f = found (kept c.self.view_is) c.in-Some.ensures c.remove-used.ensures.value in
    rw (rw c.unwrap.ensures at c.push.ensures.items, c.remove-used.ensures.items, ← c.self.view_is, f.looked_up, f.removed, ← f.is_line) refl
