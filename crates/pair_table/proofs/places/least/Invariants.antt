use Rattle.std.proofs.Common.{◌≡◌, take}
use Rattle.pair_table.specs.Prelude.{least_at}
use Rattle.pair_table.proofs.places.least.Given as goal

abbrev pub invariant-loop-place : goal.invariant-loop-place
invariant-loop-place l = l.least ≡ least_at l.firsts (take l.place-index l.places) l.most
