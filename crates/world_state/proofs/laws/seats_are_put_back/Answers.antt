use Rattle.world_state.proofs.Back.{back}
use Rattle.world_state.proofs.laws.seats_are_put_back.Goals as goal

pub returns : goal.returns
returns c = λ seats places apart. back seats places apart
