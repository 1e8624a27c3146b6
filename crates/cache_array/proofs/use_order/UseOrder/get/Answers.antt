use Rattle.std.proofs.Common.{sym}
use Rattle.cache_array.proofs.Lines.{kept, found, absent}
use Rattle.cache_array.proofs.use_order.UseOrder.get.Goals as goal

pub returns-in-Some : goal.returns-in-Some
returns-in-Some c = rw (← c.self.view_is) (sym (found (kept c.self.view_is) c.in-Some.ensures c.index.ensures).looked_up)

pub returns-in-None : goal.returns-in-None
returns-in-None c = sym (absent c.args.self.now.kept c.args.line (sym c.in-None.ensures))
