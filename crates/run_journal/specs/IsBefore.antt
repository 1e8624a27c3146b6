-- One final state comes before another: its controller has the smaller number, or the controller is the same and the
-- address is smaller. This is the order in which the program prints them, and it is this project's own. States play
-- no part in it.
use Rattle.std.specs.Prelude.{◌≡◌, ◌<◌, ◌⊎◌}
use Rattle.run_journal.specs.declared.summary.Final.{Final}

abbrev pub IsBefore : Final → Final → Type 0
IsBefore a b = (a.controller < b.controller) ⊎ ((a.controller ≡ b.controller) × (a.address < b.address))
