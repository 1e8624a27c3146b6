use Rattle.std.proofs.Common.{◌≡◌, ◌≤◌, drop}
use Rattle.ruby_options.specs.Prelude.{value_of}
use Rattle.ruby_options.proofs.Digits.{value_from}
use Rattle.ruby_options.proofs.numbers.value_up_to.Given as goal

abbrev pub invariant-loop-c : goal.invariant-loop-c
invariant-loop-c l = (value_from l.value (drop l.c-index l.digits) ≡ value_of l.digits) × (l.value ≤ l.greatest)
