use Rattle.std.proofs.Common.{◌≡◌, take}
use Rattle.pair_table.specs.Prelude.{marked}
use Rattle.pair_table.proofs.places.mark.Given as goal

abbrev pub invariant-loop-place : goal.invariant-loop-place
invariant-loop-place l = l.firsts.items ≡ marked l.number (take l.place-index l.places) l.initial.firsts.items
