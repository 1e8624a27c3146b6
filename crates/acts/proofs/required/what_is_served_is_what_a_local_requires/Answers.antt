use Rattle.acts.proofs.Requirements.{as_required}
use Rattle.acts.proofs.required.what_is_served_is_what_a_local_requires.Goals as goal

pub returns : goal.returns
returns c = as_required
