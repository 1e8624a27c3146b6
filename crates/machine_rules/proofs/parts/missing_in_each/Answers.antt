use Rattle.std.proofs.Common.{map, refl, ap, ◌∙◌}
use Rattle.std.proofs.lemmas.List.{take_all}
use Rattle.slicc_plan.specs.Prelude.{missing_parts_in, in_each_from, first_after}
use Rattle.machine_table.proofs.TablesOfMachines.{found_step}
use Rattle.machine_rules.proofs.parts.missing_in_each.Goals as goal

pub loop-place-preserved : goal.loop-place-preserved
loop-place-preserved c =
    found_step (λ m. m.now) missing_parts_in c.args.machines.now c.loop-place.place c.loop-place.place c.index-machines-place.result c.args.first c.loop-place.found c.missing_in-found.result
    c.loop-place-test.true c.index-machines-place.is refl c.loop-place.invariant c.missing_in-found.ensures

pub returns : goal.returns
returns c =
    c.loop-place.invariant ∙ ap (λ ms. first_after c.args.first (in_each_from 0 missing_parts_in (map (λ m. m.now) ms))) (take_all c.loop-place.place c.args.machines.now c.loop-place-test.false)
