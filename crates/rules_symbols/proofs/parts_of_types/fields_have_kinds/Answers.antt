use Rattle.rules_symbols.proofs.Fields.{fields_stand}
use Rattle.rules_symbols.proofs.parts_of_types.fields_have_kinds.Goals as goal

pub returns : goal.returns
returns c = λ trees k m text t n accepted at is number. fields_stand trees accepted k m at (c.types_have_numbers.ensures trees accepted) text t is n number
