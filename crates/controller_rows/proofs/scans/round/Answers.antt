use Rattle.ctl_store.specs.Prelude.{view_of}
use Rattle.controller_rows.proofs.scans.round.Goals as goal

pub returns : goal.returns
returns c =
    c.fired_rounds_stay.ensures c.args.protocol.now c.args.machine c.args.limit c.args.fired (view_of c.args.draft.now) (view_of c.walk.new.local) c.walk.result c.walk.ensures
