use Rattle.std.proofs.Common.{◌≡◌, ◌++◌, map}
use Rattle.run_journal.proofs.FinalStates.{final_at}
use Rattle.run_journal.proofs.last_states.listed.Given as goal

-- the finals so far, and those of the entries that are left
abbrev pub invariant-loop-place : goal.invariant-loop-place
invariant-loop-place l = l.all ++ map final_at l.place-iterator ≡ map final_at l.states.entries
