use Rattle.std.proofs.Common.{◌≡◌, ◌+◌, ◌++◌, ◌∷◌, [], length, map, slice_get, sym, ap, ◌∙◌}
use Rattle.std.proofs.lemmas.List.{length-append, take_all}
use Rattle.slicc_plan.specs.Prelude.{HasFewParts, shared_pairs_in}
use Rattle.machine_table.specs.Prelude.{rows_of_found}
use Rattle.machine_table.proofs.TablesOfMachines.{none_in, one_of_all, tables_step}
use Rattle.machine_table.proofs.making.tables_among.Goals as goal

pub machine_table-requires : goal.machine_table-requires
machine_table-requires c = record {
  few = one_of_all HasFewParts (λ m. m.now) c.args.machines.now c.loop-m.m-index c.m-item.result c.requires.parts c.loop-m-test.true c.m-item.is;
  alone = (0 + c.loop-m.m-index, none_in (λ m. m.now) shared_pairs_in 0 c.args.machines.now c.loop-m.m-index c.m-item.result c.requires.alone c.loop-m-test.true c.m-item.is);
}

pub loop-m-preserved : goal.loop-m-preserved
loop-m-preserved c =
    let table = c.in_ok-machine_table.field-0 in
    let pushed : c.push.new.self ≡ c.loop-m.tables ++ table ∷ [] = c.in_ok-push.ensures.ok in
    record {
      count = ap length pushed ∙ length-append c.loop-m.tables (table ∷ []) ∙ ap (λ n. n + 1) c.loop-m.invariant.count;
      agree = tables_step (λ m. m.now) c.args.machines.now c.loop-m.m-index c.m-item.result c.loop-m.tables c.push.new.self table c.loop-m-test.true c.m-item.is c.loop-m.invariant.count pushed c.loop-m.invariant.agree c.in_ok-machine_table.ensures;
    }

pub returns : goal.returns
returns c =
    let all = take_all c.loop-m.m-index c.args.machines.now c.loop-m-test.false in
    λ n s e. ap (λ ms. rows_of_found (slice_get (map (λ m. m.now) ms) n) s e) (sym all) ∙ c.loop-m.invariant.agree n s e
