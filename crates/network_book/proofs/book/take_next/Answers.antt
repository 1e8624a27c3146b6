use Rattle.std.proofs.Common.{sym, ◌∙◌}
use Rattle.network_book.proofs.Takes.{can-take, taken-held}
use Rattle.network_book.proofs.book.take_next.Goals as goal

pub take-requires-after_bounds : goal.take-requires-after_bounds
take-requires-after_bounds g c κs within =
    can-take g.D.Driver.drive c.args.world.now c.in-Some.c c.verdict.result c.verdict.ensures (sym c.is_some.ensures ∙ c.if-is_some.false) c.in-Some.ensures

pub returns-in-Some-clause-ok : goal.returns-in-Some-clause-ok
returns-in-Some-clause-ok g c =
    let can = can-take g.D.Driver.drive c.args.world.now c.in-Some.c c.verdict.result c.verdict.ensures (sym c.is_some.ensures ∙ c.if-is_some.false) c.in-Some.ensures in
    let took = c.in_ok-held.ensures in
    taken-held g.D.Driver.drive c.args.worker c.args.world.now c.take.new.self c.in-Some.c c.in_ok-held.held took.controller can took.added took.holds took.stalled
