-- Whether one final state comes before another, as a test: by controller, then by address. States play no part in it. This
-- is the order in which the program prints them, and it is this project's own.
use Rattle.std.specs.Prelude.{Bool, ◌==◌, ◌&&◌, ◌||◌, nat_lt}
use Rattle.run_journal.specs.declared.summary.Final.{Final}

abbrev pub final_before : Final → Final → Bool
final_before a b = nat_lt a.controller b.controller || (a.controller == b.controller && nat_lt a.address b.address)
