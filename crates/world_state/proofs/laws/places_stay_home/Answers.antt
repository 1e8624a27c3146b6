use Rattle.world_state.proofs.Acting.{still-home}
use Rattle.world_state.proofs.laws.places_stay_home.Goals as goal

pub returns : goal.returns
returns c = λ old new made home. still-home old new made home
