use Rattle.emit_statements.proofs.Following.{nothing_aside}
use Rattle.emit_statements.proofs.alone.set_aside.Goals as goal

pub returns-in-Value : goal.returns-in-Value
returns-in-Value c = rw c.in-Value.is c.value_set_aside.ensures

pub returns-in_default : goal.returns-in_default
returns-in_default c = nothing_aside c.args.left c.args.own.now c.args.code.now c.in_default.not-Value
