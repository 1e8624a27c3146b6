use Rattle.std.proofs.Common.{◌≡◌, map, take}
use Rattle.slicc_plan.specs.Prelude.{in_each_from, first_after, shared_pairs_in, written_of}
use Rattle.machine_table.proofs.making.written_among.Given as goal

abbrev pub invariant-loop-place : goal.invariant-loop-place
invariant-loop-place l = record {
  found : l.found ≡ first_after l.fn.first (in_each_from 0 shared_pairs_in (map (λ m. m.now) (take l.place l.machines)));
  written : l.all ≡ map written_of (map (λ m. m.now) (take l.place l.machines));
}
