-- Wanted types, as the definitions of a protocol's meaning see them.
use Rattle.std.specs.Prelude.{Option, None, Some, List, [], ◌∷◌}
use Rattle.slicc_plan.specs.StateFunctions as plan
use Rattle.machine_rules.specs.declared.wanted.Wanted.{Wanted}
use Rattle.machine_rules.specs.declared.wanted.Wanted.TheVariants.{BuiltIn, Line, OwnState}

abbrev pub wanted_of : Wanted → plan.Wanted
wanted_of (BuiltIn b) = plan.built_in_type b
wanted_of (Line s) = plan.line s.now
wanted_of OwnState = plan.own_state

-- those that are there
abbrev pub wanted_present : List (Option Wanted) → List plan.Wanted
wanted_present [] = []
wanted_present (None ∷ ws) = wanted_present ws
wanted_present (Some w ∷ ws) = wanted_of w ∷ wanted_present ws
