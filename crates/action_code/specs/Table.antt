-- What is kept of the ways that lead to the places of a body, from one place on: for each place what arrives there.
use Rattle.std.specs.Prelude.{◌≡◌, ℕ, ◌<◌, ◌≤◌, Some, List, length, slice_get}
use Rattle.action_code.specs.declared.arrivals.Arrival.{Arrival}
use Rattle.action_code.specs.Ways.{Way, arrived}

abbrev pub Holds : List Arrival → List Way → ℕ → Type 0
Holds table ways from = (place : ℕ) → from ≤ place → place < length table → slice_get table place ≡ Some (arrived place ways)
