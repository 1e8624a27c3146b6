-- One table or buffer that may be short for some actions, by its number within the machine.
use Rattle.std.specs.Prelude.{ℕ, Bool, List}
use Rattle.acts.specs.Prelude.{Acting}
use Rattle.body_meaning.specs.Prelude.{Reading, buffer_short, need, send_count, table_short}
use Rattle.scan_walk.specs.declared.actions.Room.{Room}
use Rattle.scan_walk.specs.declared.actions.Room.TheVariants.{Lines, Slots}

abbrev pub one_short : Reading → List ℕ → Room → ℕ → Acting Bool
one_short s actions Lines table = table_short (need s actions) table
one_short s actions Slots buffer = buffer_short (send_count s actions) buffer
