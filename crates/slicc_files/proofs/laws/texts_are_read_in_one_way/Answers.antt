use Rattle.slicc_files.proofs.OneText.{one_text}
use Rattle.slicc_files.proofs.laws.texts_are_read_in_one_way.Goals as goal

pub returns : goal.returns
returns c = one_text
