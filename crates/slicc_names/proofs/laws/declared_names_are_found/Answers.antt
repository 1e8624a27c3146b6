use Rattle.slicc_names.proofs.ScopeSizes.{numbers}
use Rattle.slicc_names.proofs.laws.declared_names_are_found.Goals as goal

pub returns : goal.returns
returns c = numbers
