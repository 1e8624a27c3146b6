use Rattle.std.proofs.Common.{◌≡◌, drop, find, map}
use Rattle.slicc_plan.specs.Prelude.{is_named, parameter}
use Rattle.declared_types.proofs.declarations.first_parameter.Given as goal

abbrev pub invariant-loop-p : goal.invariant-loop-p
invariant-loop-p l =
    find (is_named l.name) (map parameter l.parameters) ≡ find (is_named l.name) (map parameter (drop l.p-index l.parameters))
