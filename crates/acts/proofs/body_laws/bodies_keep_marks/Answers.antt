use Rattle.acts.proofs.Instances.{marks_stay, stays_marked}
use Rattle.acts.proofs.body_laws.bodies_keep_marks.Goals as goal

pub returns : goal.returns
returns g c = record { stay = marks_stay; marked = stays_marked }
