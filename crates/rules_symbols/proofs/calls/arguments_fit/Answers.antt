use Rattle.rules_symbols.proofs.Arguments.{arguments_are}
use Rattle.rules_symbols.proofs.calls.arguments_fit.Goals as goal

pub returns : goal.returns
returns c = λ env wanted given few known none. arguments_are env wanted given few known none
