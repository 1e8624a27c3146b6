use Rattle.slicc_names.proofs.ScopeSizes.{sizes}
use Rattle.slicc_names.proofs.laws.names_have_numbers.Goals as goal

pub returns : goal.returns
returns c = sizes
