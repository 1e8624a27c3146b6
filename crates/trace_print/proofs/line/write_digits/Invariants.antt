use Rattle.std.proofs.Common.{◌≡◌, ◌+◌, ◌^◌, ◌<◌, ◌≤◌, false, length, drop}
use Rattle.std.specs.Fmt.{digits, digits_onto}
use Rattle.trace_print.proofs.line.write_digits.Given as goal

abbrev pub invariant-loop-left : goal.invariant-loop-left
invariant-loop-left l = record {
  some : 0 < l.at;
  within : l.at ≤ 16;
  long : length l.buffer ≡ 16;
  below : l.left < 16 ^ l.at;
  rest : digits_onto (48 + l.at) 16 false l.left (drop l.at l.buffer) ≡ digits 16 false l.number;
}

abbrev pub decreases-loop-left : goal.decreases-loop-left
decreases-loop-left l = l.left
