use Rattle.std.proofs.Common.{◌≡◌, All, length, map, slice_get, subst, sym, ap, arith, ◌∙◌}
use Rattle.std.proofs.lemmas.List.{length-map}
use Rattle.slicc_plan.specs.Prelude.{HasFewMachines, HasFewParts, machines_of, shared_pairs}
use Rattle.slicc_plan.proofs.Few.{few_machines}
use Rattle.slicc_plan.proofs.NoPairShared.{none_shared}
use Rattle.machine_table.specs.Prelude.{rows_of_found}
use Rattle.ruby_answers.specs.Prelude.{machine_rows}
use Rattle.ruby_answers.proofs.tables.table_rows.Goals as goal

pub tables_of-requires : goal.tables_of-requires
tables_of-requires c = record {
  few = subst HasFewMachines (sym c.trees-trees.ensures.trees) (few_machines c.args.plan.now c.trees-trees.ensures.accepted.of_declarations);
  alone = ap shared_pairs c.trees-trees.ensures.trees ∙ none_shared c.args.plan.now c.trees-trees.ensures.accepted.of_machines;
}

pub rows_in-requires : goal.rows_in-requires
rows_in-requires c =
    let few = few_machines c.args.plan.now c.trees-trees.ensures.accepted.of_declarations in
    let same : map (λ m. m.now) c.as_slice.result.now ≡ machines_of c.args.plan.now =
    ap (map (λ m. m.now)) c.as_slice.ensures ∙ c.in_ok-machines.ensures ∙ ap machines_of c.trees-trees.ensures.trees in
    record {
      few = omega (arith, ap length same, length-map c.as_slice.result.now (λ m. m.now), few.machines);
      parts = subst (All HasFewParts) (sym same) few.each;
      rows = λ n s e. ap (λ ms. rows_of_found (slice_get (map (λ m. m.now) ms) n) s e) c.as_slice.ensures
          ∙ ap (λ ms. rows_of_found (slice_get ms n) s e) c.in_ok-machines.ensures ∙ c.in_ok-tables.ensures.rows n s e;
    }

pub returns : goal.returns
returns c =
    c.in_ok-rows.ensures ∙ ap (λ ms. map machine_rows (map (λ m. m.now) ms)) c.as_slice.ensures
    ∙ ap (map machine_rows) (c.in_ok-machines.ensures ∙ ap machines_of c.trees-trees.ensures.trees)
