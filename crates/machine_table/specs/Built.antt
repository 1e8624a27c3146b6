-- What may be answered where the tables of a protocol are asked for.
use Rattle.std.specs.Prelude.{◌≡◌, Result, Ok, Err, List, [], unwrap_or}
use Rattle.slicc_ast.specs.declared.tree.item.Tree.{Tree}
use Rattle.slicc_plan.specs.declared.broken.Broken.{Broken}
use Rattle.slicc_plan.specs.Prelude.{IsFirstBroken, shared_pairs}
use Rattle.machine_table.specs.declared.table.TableFault.{TableFault}
use Rattle.machine_table.specs.declared.table.TableFault.TheVariants.{Duplicate, NoMemory}
use Rattle.machine_table.specs.declared.table.Tables.{Tables}
use Rattle.machine_table.specs.Answers.{answer, state_count}
use Rattle.machine_table.specs.TablesOf.{AreStateCountsOf, AreTablesOf}

pub data IsBuilt (trees : List Tree) : Result Tables TableFault → Type 0 where
  tables : {t : Tables} → shared_pairs trees ≡ [] → AreTablesOf trees (answer t) → AreStateCountsOf trees (state_count t)
      → IsBuilt trees (Ok t)
  shared : {b : Broken} → IsFirstBroken (shared_pairs trees) b
      → IsBuilt trees (Err (Duplicate (unwrap_or b.other b.place) b.place))
  -- memory may run out at any time
  no_memory : IsBuilt trees (Err NoMemory)
