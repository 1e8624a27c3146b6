use Rattle.std.proofs.Common.{◌≡◌, Err, None, Some, List, [], Option, subst, sym, ◌∙◌}
use Rattle.std.proofs.lemmas.Result.{err_from_is_err_and}
use Rattle.slicc_plan.specs.declared.broken.Broken.{Broken}
use Rattle.slicc_plan.specs.Prelude.{IsFirstBroken, IsFirstOf, first_after, shared_pairs}
use Rattle.slicc_plan.proofs.Firsts.{first_after_none}
use Rattle.machine_table.specs.declared.table.TableFault.TheVariants.{Duplicate}
use Rattle.machine_table.specs.Prelude.{IsBuilt, tables, shared, no_memory}
use Rattle.machine_table.proofs.making.build_of_trees.Goals as goal

nothing_found : (all : List Broken) (o : Option Broken) → o ≡ first_after None all → o ≡ None → all ≡ []
nothing_found all o e n = subst (IsFirstOf all) (sym e ∙ n) (first_after_none all)

one_found : (all : List Broken) (o : Option Broken) (b : Broken) → o ≡ first_after None all → o ≡ Some b → IsFirstBroken all b
one_found all o b e n = subst (IsFirstOf all) (sym e ∙ n) (first_after_none all)

pub returns-in_err-found : goal.returns-in_err-found
returns-in_err-found c =
    let p = err_from_is_err_and c.from_residual.result c.from_residual.ensures.1 in rw (p.1, p.2) no_memory

pub tables_of-requires-clause-alone : goal.tables_of-requires-clause-alone
tables_of-requires-clause-alone c = nothing_found (shared_pairs c.args.trees.now) c.in_ok-found.found c.in_ok-found.ensures.first c.in-None.is

pub returns-in_err-tables_of-in-None : goal.returns-in_err-tables_of-in-None
returns-in_err-tables_of-in-None c =
    let p = err_from_is_err_and c.from_residual-in_err-tables_of-in-None.result c.from_residual-in_err-tables_of-in-None.ensures.1 in rw (p.1, p.2) no_memory

pub returns-in_ok-tables_of-in-None : goal.returns-in_ok-tables_of-in-None
returns-in_ok-tables_of-in-None c =
    tables (nothing_found (shared_pairs c.args.trees.now) c.in_ok-found.found c.in_ok-found.ensures.first c.in-None.is) c.in_ok-tables_of-in-None.ensures.rows
    c.in_ok-tables_of-in-None.ensures.counts

pub returns-in-Some : goal.returns-in-Some
returns-in-Some c =
    let b = c.in-Some.b in
    let first : IsFirstBroken (shared_pairs c.args.trees.now) b = one_found (shared_pairs c.args.trees.now) c.in_ok-found.found b c.in_ok-found.ensures.first c.in-Some.is in
    subst (λ u. IsBuilt c.args.trees.now (Err (Duplicate u b.place))) (sym c.unwrap_or.ensures) (shared first)
