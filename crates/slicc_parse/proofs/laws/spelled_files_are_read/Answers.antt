use Rattle.slicc_parse.proofs.Exactly.{no_fault}
use Rattle.slicc_parse.proofs.laws.spelled_files_are_read.Goals as goal

pub returns : goal.returns
returns c = no_fault
