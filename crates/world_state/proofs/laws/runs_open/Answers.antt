use Rattle.world_state.proofs.Openings.{opens-kept, opens-nobody}
use Rattle.world_state.proofs.laws.runs_open.Goals as goal

pub returns : goal.returns
returns g c =
    λ p drive s held kept st opens are fits. (
      opens-kept p drive s held kept st opens are fits,
      opens-nobody p drive s held kept st opens are,
    )
