use Rattle.std.proofs.Common.{◌≡◌}
use Rattle.slicc_flow.specs.Prelude.{expanded, none_found, with_calls}
use Rattle.slicc_flow.proofs.reach.found_by.Given as goal

abbrev pub invariant-loop-place : goal.invariant-loop-place
invariant-loop-place l = l.found ≡ expanded l.place l.functions (with_calls (none_found l.functions) l.calls)
