use Rattle.rules_symbols.proofs.TypedExpressions.{typed_is}
use Rattle.rules_symbols.proofs.typing.expressions_are_typed.Goals as goal

pub returns : goal.returns
returns c = λ k env e h none. typed_is k env h e none
