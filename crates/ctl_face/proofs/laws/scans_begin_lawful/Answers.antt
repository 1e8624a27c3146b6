use Rattle.ctl_face.proofs.LawfulAfter.{scan_begins}
use Rattle.ctl_face.proofs.laws.scans_begin_lawful.Goals as goal

pub returns : goal.returns
returns c = scan_begins
