use Rattle.std.proofs.Common.{refl, sym}
use Rattle.cache_array.proofs.Lines.{kept, found, absent}
use Rattle.cache_array.proofs.use_order.UseOrder.set_field.Goals as goal

pub returns-in_default-clause-there : goal.returns-in_default-clause-there
returns-in_default-clause-there c = rw (absent c.args.self.now.kept c.args.line (sym c.in_default.ensures)) (λ wrong. wrong, λ wrong. wrong)

pub returns-clause-ok : goal.returns-clause-ok
returns-clause-ok c =
    let f = found (kept c.self.view_is) c.in-Some.ensures c.index_mut.ensures.value in
    rw (← c.self.view_is, f.looked_up, c.write.ensures) (sym (f.written _))

pub returns-clause-there : goal.returns-clause-there
returns-clause-there c =
    let f = found (kept c.self.view_is) c.in-Some.ensures c.index_mut.ensures.value in
    rw (← c.self.view_is, f.looked_up) (λ _. refl, λ _. refl)
