use Rattle.std.proofs.Common.{length}
use Rattle.body_meaning.proofs.call_numbers.+number_among.Given as goal

abbrev pub decreases-number_among : goal.decreases-number_among
decreases-number_among l = length l.calls.now
