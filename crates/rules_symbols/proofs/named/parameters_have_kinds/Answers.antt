use Rattle.rules_symbols.proofs.Parameters.{object_stands, parameter_stands}
use Rattle.rules_symbols.proofs.named.parameters_have_kinds.Goals as goal

pub returns : goal.returns
returns c = record {
  parameters = λ trees k m p t kind accepted at there is valued. parameter_stands trees accepted k m at p t kind there is valued;
  objects = λ trees k m o t kind accepted at there is valued. object_stands trees accepted k m at o t kind there is valued;
}
