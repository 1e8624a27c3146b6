use Rattle.world_state.proofs.Closings.{close-kept, close-steps}
use Rattle.world_state.proofs.laws.closes_are_steps.Goals as goal

pub returns : goal.returns
returns g c =
    λ p drive s held old new worker d is_kept running nobody rested least closed.
    let st = close-steps p drive s held old new worker d is_kept nobody rested least closed running in (
      st,
      close-kept p drive s held old new worker d is_kept nobody rested least closed st,
    )
