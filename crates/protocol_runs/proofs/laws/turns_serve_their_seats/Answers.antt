use Rattle.protocol_runs.proofs.Seating.{others-stay, seats-served}
use Rattle.protocol_runs.proofs.laws.turns_serve_their_seats.Goals as goal

pub returns-clause-seats : goal.returns-clause-seats
returns-clause-seats g c = λ setups controllers d k seat x distinct. seats-served setups distinct controllers d k seat x

pub returns-clause-others : goal.returns-clause-others
returns-clause-others g c = λ setups d controller x none. others-stay setups controller none d x
