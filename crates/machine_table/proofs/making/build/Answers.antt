use Rattle.std.proofs.Common.{subst, sym, ap, ◌∙◌}
use Rattle.std.proofs.lemmas.Result.{err_from_is_err_and}
use Rattle.slicc_plan.specs.Prelude.{HasFewMachines, shared_pairs}
use Rattle.slicc_plan.proofs.Few.{few_machines}
use Rattle.slicc_plan.proofs.NoPairShared.{none_shared}
use Rattle.machine_table.specs.Prelude.{AreStateCountsOf, AreTablesOf, answer, no_memory, state_count, tables}
use Rattle.machine_table.proofs.making.build.Goals as goal

pub tables_of-requires-clause-few : goal.tables_of-requires-clause-few
tables_of-requires-clause-few c = subst HasFewMachines (sym c.trees.ensures.trees) (few_machines c.args.plan.now c.trees.ensures.accepted.of_declarations)

pub tables_of-requires-clause-alone : goal.tables_of-requires-clause-alone
tables_of-requires-clause-alone c = ap shared_pairs c.trees.ensures.trees ∙ none_shared c.args.plan.now c.trees.ensures.accepted.of_machines

pub returns-in_err-tables_of : goal.returns-in_err-tables_of
returns-in_err-tables_of c =
    let p = err_from_is_err_and c.from_residual.result c.from_residual.ensures.1 in rw (p.1, p.2) no_memory

pub returns : goal.returns
returns c =
    tables (none_shared c.args.plan.now c.trees.ensures.accepted.of_machines)
    (subst (λ trees. AreTablesOf trees (answer c.in_ok-tables_of.field-0)) c.trees.ensures.trees c.in_ok-tables_of.ensures.rows)
    (subst (λ trees. AreStateCountsOf trees (state_count c.in_ok-tables_of.field-0)) c.trees.ensures.trees c.in_ok-tables_of.ensures.counts)
