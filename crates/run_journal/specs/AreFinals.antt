-- The final states of a run: for each controller and address that a transition fired for, the next state of the last
-- such transition, by ascending controller and then address. So each pair of a controller and an address is there at
-- most once. The list is this project's own, and it has nothing for an address that no transition fired for.
use Rattle.std.specs.Prelude.{◌≡◌, ◌↔◌, List, Some, AllPairs, Contains}
use Rattle.run_journal.specs.declared.entry.Entry.{Entry}
use Rattle.run_journal.specs.declared.summary.Final.{Final}
use Rattle.run_journal.specs.IsBefore.{IsBefore}
use Rattle.run_journal.specs.LastState.{last_state}

pub record AreFinals (journal : List Entry) (finals : List Final) : Type 0 where
  -- each final comes before all later ones
  pub ascending : AllPairs IsBefore finals
  -- a final is there exactly where the journal leaves its address of its controller in its state
  pub exactly : (f : Final) → Contains finals f ↔ (last_state journal f.controller f.address ≡ Some f.state)
