use Rattle.schedule_laws.proofs.Swapped.{arrivals-swap}
use Rattle.schedule_laws.proofs.laws.arrivals_swap.Goals as goal

pub returns : goal.returns
returns g c = λ p s. arrivals-swap p g.D.Driver.drive s
