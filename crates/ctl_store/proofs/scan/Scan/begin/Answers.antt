use Rattle.ctl_store.proofs.Beginning.{begun_scan, begun_view}
use Rattle.ctl_store.proofs.scan.Scan.begin.Goals as goal

pub invariant_of-result : goal.invariant_of-result
invariant_of-result c =
    let after = c.begin.ensures in
    begun_scan c.args.parts.now c.args.routes.now c.args.seed c.args.now c.begin.new.self
    c.requires.kept c.requires.routes c.requires.cycle c.requires.fits
    (begun_view c.args.parts.now c.args.routes.now c.args.seed c.args.now c.begin.new.self after.tables after.states after.told after.unchanged)
    after.replays after.mail after.calls after.fit

pub returns : goal.returns
returns c =
    let after = c.begin.ensures in
    begun_view c.args.parts.now c.args.routes.now c.args.seed c.args.now c.begin.new.self after.tables after.states after.told after.unchanged
