-- One table or buffer that may be short for a transition, by its number within the machine.
use Rattle.std.specs.Prelude.{ℕ, Bool}
use Rattle.acts.specs.Prelude.{Acting}
use Rattle.slicc_plan.specs.declared.row.Row.{Row}
use Rattle.body_meaning.specs.Prelude.{buffer_short, table_short}
use Rattle.compiled_protocol.specs.declared.room.Room.{Room}
use Rattle.compiled_protocol.specs.declared.room.Room.TheVariants.{Lines, Slots}
use Rattle.compiled_protocol.specs.Machine.{MachineCode}
use Rattle.compiled_protocol.specs.Scan.{needed, sent}

abbrev pub one_short : MachineCode → Row → Room → ℕ → Acting Bool
one_short c row Lines table = table_short (needed c row) table
one_short c row Slots buffer = buffer_short (sent c row) buffer
