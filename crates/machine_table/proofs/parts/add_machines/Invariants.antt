use Rattle.std.proofs.Common.{◌≡◌, ◌++◌, flat_map, map, take}
use Rattle.slicc_plan.specs.Prelude.{item_declarations, machine_in}
use Rattle.machine_table.proofs.parts.add_machines.Given as goal

abbrev pub invariant-loop-item : goal.invariant-loop-item
invariant-loop-item l =
    map (λ m. m.now) l.found ≡ map (λ m. m.now) l.initial.found ++ flat_map machine_in (flat_map item_declarations (take l.item-index l.t.items))
