use Rattle.std.proofs.Common.{◌≡◌, ◌<◌, ◌^◌, drop, option_and_then}
use Rattle.slicc_plan.specs.Prelude.{number_in_range}
use Rattle.declaration_rules.specs.Prelude.{read_from}
use Rattle.declaration_rules.proofs.numbers.read_digits.Given as goal

abbrev pub invariant-loop-c : goal.invariant-loop-c
invariant-loop-c l = record {
  small : l.n < 2 ^ 63;
  rest : option_and_then number_in_range (read_from l.base 0 l.digits) ≡ option_and_then number_in_range (read_from l.base l.n (drop l.c-index l.digits));
}
