use Rattle.std.proofs.Common.{◌≡◌, ◌+◌, take}
use Rattle.std.specs.List.{slice_index_or, sum_by}
use Rattle.slicc_flow.specs.Prelude.{capped}
use Rattle.slicc_flow.proofs.sizes.size_in.Given as goal

abbrev pub invariant-loop-call : goal.invariant-loop-call
invariant-loop-call l =
    l.size ≡ capped (l.b.size + sum_by (λ c. slice_index_or l.sizes c 0) (take l.call-index l.b.calls))
