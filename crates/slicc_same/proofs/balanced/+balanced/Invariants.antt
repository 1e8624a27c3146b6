use Rattle.std.proofs.Common.{◌≡◌, drop}
use Rattle.slicc_same.specs.Prelude.{all_alike, alike_part}
use Rattle.slicc_same.proofs.balanced.+balanced.Given as goal

abbrev pub invariant-all_same_parts-loop-x : goal.invariant-all_same_parts-loop-x
invariant-all_same_parts-loop-x l = all_alike alike_part l.a l.b ≡ all_alike alike_part (drop l.x-index l.a) l.right
