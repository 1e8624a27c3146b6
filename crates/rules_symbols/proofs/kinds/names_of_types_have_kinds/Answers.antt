use Rattle.rules_symbols.proofs.TypeKinds.{kind_is}
use Rattle.rules_symbols.proofs.kinds.names_of_types_have_kinds.Goals as goal

pub returns : goal.returns
returns c = λ trees k m text t kind accepted at is valued. kind_is trees accepted k m at text t kind is valued
