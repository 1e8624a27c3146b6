use Rattle.std.proofs.Common.{◌==◌}
use Rattle.trace_print.proofs.NameParts.{none_before, some_before}
use Rattle.trace_print.proofs.rows.machine_part.Goals as goal

pub returns-in-None : goal.returns-in-None
returns-in-None c = none_before (λ byte. byte == 45) c.args.name.now c.in-None.ensures.value

pub returns-in-Some : goal.returns-in-Some
returns-in-Some c = some_before (λ byte. byte == 45) c.args.name.now c.in-Some.place c.in-Some.ensures.value
