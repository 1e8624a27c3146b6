use Rattle.std.proofs.Common.{◌≡◌, flat_map, take}
use Rattle.slicc_plan.specs.Prelude.{first_after, repeated}
use Rattle.slicc_names.proofs.scopes.in_each.Given as goal

abbrev pub invariant-loop-part : goal.invariant-loop-part
invariant-loop-part g l = l.first ≡ first_after l.initial.first (flat_map repeated (flat_map g.T.Scoped.scopes (take l.part-index l.parts)))
