use Rattle.ctl_face.proofs.Betweens.{numbers_left}
use Rattle.ctl_face.proofs.laws.copies_have_numbers.Goals as goal

pub returns : goal.returns
returns c = λ v lawful. numbers_left v lawful.scan
