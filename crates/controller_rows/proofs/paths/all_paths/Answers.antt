use Rattle.controller_rows.specs.Prelude.{paths_from}
use Rattle.controller_rows.proofs.Ranges.{pushed}
use Rattle.controller_rows.proofs.paths.all_paths.Goals as goal

pub loop-sender-preserved : goal.loop-sender-preserved
loop-sender-preserved c =
    pushed (paths_from c.args.network.now c.args.count) c.loop-sender.sender c.loop-sender.all c.push.new.self c.in_ok-paths_from.field-0 c.loop-sender.invariant
    c.in_ok-paths_from.ensures c.in_ok-push.ensures.ok
