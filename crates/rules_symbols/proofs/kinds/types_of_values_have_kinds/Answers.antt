use Rattle.rules_symbols.proofs.ValueKinds.{kind_there}
use Rattle.rules_symbols.proofs.kinds.types_of_values_have_kinds.Goals as goal

pub returns : goal.returns
returns c = λ trees k m text t accepted at is valued. kind_there trees k m at text t is valued
