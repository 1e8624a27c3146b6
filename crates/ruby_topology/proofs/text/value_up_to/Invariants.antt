use Rattle.std.proofs.Common.{◌≡◌, ◌≤◌, drop}
use Rattle.ruby_topology.specs.Text.{value_of}
use Rattle.ruby_topology.proofs.Digits.{value_from}
use Rattle.ruby_topology.proofs.text.value_up_to.Given as goal

abbrev pub invariant-loop-b : goal.invariant-loop-b
invariant-loop-b l = (value_from l.value (drop l.b-index l.digits) ≡ value_of l.digits) × (l.value ≤ l.greatest)
