use Rattle.std.proofs.Common.{◌≡◌, false, map, take}
use Rattle.slicc_plan.specs.declared.part.Body.{Body}
use Rattle.slicc_flow.proofs.reach.none_seen.Given as goal

abbrev pub invariant-loop-body : goal.invariant-loop-body
invariant-loop-body l = l.seen ≡ map (λ (b : Body). false) (take l._body-index l.functions)
