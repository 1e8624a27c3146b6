use Rattle.world_state.proofs.Readings.{none-held, none-passes}
use Rattle.world_state.specs.Prelude.{is_free}
use Rattle.world_state.proofs.laws.reads_are_of_places.Goals as goal

pub returns-clause-nobody : goal.returns-clause-nobody
returns-clause-nobody c = λ places none. none-held places none

pub returns-clause-rested : goal.returns-clause-rested
returns-clause-rested c = λ now places none d k there. none-passes (is_free now) places none d k there
