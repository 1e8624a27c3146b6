use Rattle.turn_lock.proofs.Between.{between}
use Rattle.turn_lock.proofs.facts.hold_between_steps.Goals as goal

pub returns : goal.returns
returns g c = between g.V.Kept.plan g.V.Kept.history
