use Rattle.std.proofs.Common.{◌≡◌, drop}
use Rattle.slicc_same.specs.Prelude.{all_alike}
use Rattle.slicc_same.proofs.list.all_same.Given as goal

abbrev pub invariant-loop-x : goal.invariant-loop-x
invariant-loop-x g l = all_alike g.T.Same.alike l.a l.b ≡ all_alike g.T.Same.alike (drop l.x-index l.a) l.right
