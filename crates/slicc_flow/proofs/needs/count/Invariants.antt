use Rattle.std.proofs.Common.{◌≡◌, ◌==◌, take}
use Rattle.std.specs.List.{count_by}
use Rattle.slicc_flow.proofs.needs.count.Given as goal

abbrev pub invariant-loop-k : goal.invariant-loop-k
invariant-loop-k l = l.n ≡ count_by (λ k. k == l.table) (take l.k-index l.checks)
