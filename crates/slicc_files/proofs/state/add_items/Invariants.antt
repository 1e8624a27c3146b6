use Rattle.std.proofs.Common.{◌≡◌, ◌≤◌, ◌++◌, drop, length, reverse}
use Rattle.std.specs.List.{flat_map}
use Rattle.slicc_files.specs.Prelude.{wanted_by}
use Rattle.slicc_files.proofs.state.add_items.Given as goal

abbrev pub invariant-loop-count : goal.invariant-loop-count
invariant-loop-count l = record {
  within : l.count ≤ length l.items;
  left : l.left.items ≡ l.initial.left.items ++ reverse (flat_map (wanted_by l.folder l.file) (drop l.count l.items));
}

abbrev pub decreases-loop-count : goal.decreases-loop-count
decreases-loop-count l = l.count
