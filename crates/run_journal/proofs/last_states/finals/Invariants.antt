use Rattle.std.proofs.Common.{◌≡◌, ℕ, drop}
use Rattle.std.specs.BTreeMap.{get}
use Rattle.std.specs.List.{filter_map, last_or}
use Rattle.run_journal.specs.Prelude.{last_state, next_state}
use Rattle.run_journal.proofs.LastStates.{place_cmp}
use Rattle.run_journal.proofs.last_states.finals.Given as goal

-- the states so far and the rest of the journal give the last states
abbrev pub invariant-loop-place : goal.invariant-loop-place
invariant-loop-place l =
    (c a : ℕ) → last_or (get place_cmp l.states (c, a)) (filter_map (next_state c a) (drop l.place l.j)) ≡ last_state l.j c a
