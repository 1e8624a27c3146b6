use Rattle.std.proofs.Common.{length}
use Rattle.emit_expressions.proofs.calls.+permission_machine.Given as goal

abbrev pub decreases-permission_machine : goal.decreases-permission_machine
decreases-permission_machine l = length l.machines.now
