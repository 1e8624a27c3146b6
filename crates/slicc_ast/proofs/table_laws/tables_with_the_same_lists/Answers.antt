use Rattle.slicc_ast.proofs.Joining.{same_lists}
use Rattle.slicc_ast.proofs.SameStops.{same_stop}
use Rattle.slicc_ast.proofs.table_laws.tables_with_the_same_lists.Goals as goal

pub returns : goal.returns
returns g c = record { covered = same_lists; stops = same_stop }
