use Rattle.std.proofs.Common.{refl}
use Rattle.acts.specs.Prelude.{itself}
use Rattle.body_walk.proofs.Ends.{found_ends, found_fails}
use Rattle.body_walk.proofs.finding.found.Goals as goal

pub returns-in-Some : goal.returns-in-Some
returns-in-Some g c = rw c.in-Some.is (found_ends itself _ _ _ _ _ refl refl)

pub returns-in-None : goal.returns-in-None
returns-in-None g c = rw (c.in-None.is, c.from.ensures) (found_fails itself _ _ _ _ _ refl refl)
