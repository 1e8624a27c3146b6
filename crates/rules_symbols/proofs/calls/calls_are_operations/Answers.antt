use Rattle.rules_symbols.proofs.CallTable.{call_row}
use Rattle.rules_symbols.proofs.calls.calls_are_operations.Goals as goal

pub returns : goal.returns
returns c = call_row
