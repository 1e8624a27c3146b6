use Rattle.std.proofs.Common.{◌≡◌, ◌++◌, drop}
use Rattle.slicc_plan.specs.Prelude.{values_from}
use Rattle.machine_setup.proofs.fields.opening_values.Given as goal

abbrev pub invariant-loop-number : goal.invariant-loop-number
invariant-loop-number l =
    l.values ++ values_from l.sizes l.number (drop l.number l.fields) ≡ values_from l.sizes 0 l.fields
