use Rattle.std.proofs.Common.{map, ap, ◌∙◌}
use Rattle.std.proofs.lemmas.List.{take_all}
use Rattle.slicc_plan.specs.Prelude.{HasFewParts}
use Rattle.machine_table.proofs.TablesOfMachines.{one_of_all}
use Rattle.ruby_answers.specs.Prelude.{machine_rows}
use Rattle.ruby_answers.proofs.RowsBelow.{machine_found, machine_step}
use Rattle.ruby_answers.proofs.tables.rows_in.Goals as goal

pub rows_of-requires : goal.rows_of-requires
rows_of-requires c = record {
  few = one_of_all HasFewParts (λ m. m.now) c.args.machines.now c.loop-place.place c.index-machines-place.result c.requires.parts c.loop-place-test.true c.index-machines-place.is;
  rows = λ s e. machine_found (λ m. m.now) c.args.machines.now c.loop-place.place c.index-machines-place.result s e c.loop-place-test.true c.index-machines-place.is
      ∙ c.requires.rows c.loop-place.place s e;
}

pub loop-place-preserved : goal.loop-place-preserved
loop-place-preserved c =
    machine_step (λ m. m.now) c.args.machines.now c.loop-place.place c.index-machines-place.result c.loop-place.found c.push.new.self c.in_ok-rows.rows c.loop-place-test.true c.index-machines-place.is c.loop-place.invariant c.in_ok-push.ensures.ok c.in_ok-rows.ensures

pub returns : goal.returns
returns c =
    c.loop-place.invariant ∙ ap (λ ms. map machine_rows (map (λ m. m.now) ms)) (take_all c.loop-place.place c.args.machines.now c.loop-place-test.false)
