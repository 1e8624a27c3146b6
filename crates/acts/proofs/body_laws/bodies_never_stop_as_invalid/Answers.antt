use Rattle.acts.proofs.Instances.{never_as_invalid}
use Rattle.acts.proofs.body_laws.bodies_never_stop_as_invalid.Goals as goal

pub returns : goal.returns
returns g c = never_as_invalid
