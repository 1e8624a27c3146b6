use Rattle.world_state.proofs.Served.{served-places}
use Rattle.world_state.proofs.seat_laws.turns_serve_the_places.Goals as goal

pub returns : goal.returns
returns g c = λ seats places d apart. served-places seats apart places d
