use Rattle.std.proofs.Common.{◌≡◌, ◌<◌, ℕ, [], length, get_or}
use Rattle.ruby_topology.specs.Prelude.{IsRow}
use Rattle.ruby_topology.proofs.paths.rows.Given as goal

abbrev pub invariant-loop-from : goal.invariant-loop-from
invariant-loop-from l =
    (length l.rows ≡ l.from) × ((k : ℕ) → k < l.from → IsRow l.network l.links l.total k (get_or l.rows k []))
