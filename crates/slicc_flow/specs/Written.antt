-- What is lent of the bodies of a machine, as their definitions see it, and parts sorted by what they do.
use Rattle.std.specs.Prelude.{ℕ, Option, None, Some, List, [], ◌∷◌, ◌++◌, flat_map, map}
use Rattle.slicc_plan.specs.declared.part.Part.{Part}
use Rattle.slicc_plan.specs.BodyParts.{Written}
use Rattle.slicc_plan.specs.Prelude.{call_in, change_in, check_in}
use Rattle.slicc_flow.specs.declared.written.Sorts.{Sorts}
use Rattle.slicc_flow.specs.declared.written.Lent.{Lent}

abbrev pub written_of : Lent → Written
written_of w = record { name = w.name.now; block = w.block.now; place = w.place }

abbrev pub written_list : List Lent → List Written
written_list ws = map written_of ws

abbrev pub written_or_none : Option Lent → List Written
written_or_none None = []
written_or_none (Some w) = written_of w ∷ []

abbrev pub with_part : Sorts → Part → Sorts
with_part s p =
    record { calls = s.calls ++ call_in p; checks = s.checks ++ check_in p; changes = s.changes ++ change_in p }

abbrev pub sorted_by : List Part → Sorts
sorted_by parts =
    record { calls = flat_map call_in parts; checks = flat_map check_in parts; changes = flat_map change_in parts }
