use Rattle.std.proofs.Common.{rules, ap, ◌∙◌}
use Rattle.turn_lock.proofs.Keeps.{looks}
use Rattle.turn_lock.proofs.turnstile.await_turn.Goals as goal

pub load-turn-requires : goal.load-turn-requires
load-turn-requires g c = (search rules, search rules, looks g.V.Kept.plan g.V.Kept.history _ _ _ _ _ (ap (λ m. m.0.stage) c.loop.invariant.2 ∙ c.requires.stage))
