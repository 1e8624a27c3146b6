use Rattle.std.proofs.Common.{None, Some, refl, sym}
use Rattle.body_meaning.specs.Prelude.{reading, send_count}
use Rattle.scan_steps.proofs.Sent.{none_sent}
use Rattle.scan_walk.proofs.Short.{none_more, nothing_short, short_by, slots_stop, some_more}
use Rattle.scan_walk.proofs.actions.buffer_short.Goals as goal

pub returns-then-not-is_sent_on : goal.returns-then-not-is_sent_on
returns-then-not-is_sent_on g c =
    nothing_short (send_count (reading c.args.s) c.args.actions.now) c.args.buffer (g.T.Local.view c.args.local.now)
    (none_sent (reading c.args.s) c.args.actions.now c.args.buffer (sym c.if-not-is_sent_on.ensures))

pub returns-in-Ok-None : goal.returns-in-Ok-None
returns-in-Ok-None g c =
    short_by (send_count (reading c.args.s) c.args.actions.now) c.args.buffer (g.T.Local.view c.args.local.now) None
    (rw c.in-Ok-None.field-0-is at c.in-Ok-None.ensures) _ refl

pub returns-in-Ok-Some : goal.returns-in-Ok-Some
returns-in-Ok-Some g c =
    short_by (send_count (reading c.args.s) c.args.actions.now) c.args.buffer (g.T.Local.view c.args.local.now) (Some c.in-Ok-Some.free)
    (rw c.in-Ok-Some.field-0-is at c.in-Ok-Some.ensures) _ c.has_more.ensures

pub returns-then-has_more : goal.returns-then-has_more
returns-then-has_more g c =
    slots_stop (send_count (reading c.args.s) c.args.actions.now) c.args.buffer (g.T.Local.view c.args.local.now) c.in-Err.e c.in-Err.ensures
    (some_more _ c.if-has_more.ensures)

pub returns-else-has_more : goal.returns-else-has_more
returns-else-has_more g c =
    nothing_short (send_count (reading c.args.s) c.args.actions.now) c.args.buffer (g.T.Local.view c.args.local.now)
    (none_more _ c.if-has_more.ensures)
