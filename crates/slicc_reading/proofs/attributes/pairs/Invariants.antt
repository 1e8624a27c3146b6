use Rattle.std.proofs.Common.{length}
use Rattle.slicc_reading.proofs.PairLists.{ArePairs}
use Rattle.slicc_reading.proofs.attributes.pairs.Given as goal

abbrev pub invariant-commas : goal.invariant-commas
invariant-commas l = ArePairs l.room l.tokens l.items l.left

abbrev pub decreases-commas : goal.decreases-commas
decreases-commas l = length l.left
