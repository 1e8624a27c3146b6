use Rattle.std.proofs.Common.{◌≡◌, drop, filter_map, slice_get}
use Rattle.slicc_plan.specs.Prelude.{attribute_in}
use Rattle.declared_types.proofs.attributes.first_among.Given as goal

abbrev pub invariant-loop-p : goal.invariant-loop-p
invariant-loop-p l = slice_get (filter_map (attribute_in l.key) l.items) 0 ≡ slice_get (filter_map (attribute_in l.key) (drop l.p-index l.items)) 0
