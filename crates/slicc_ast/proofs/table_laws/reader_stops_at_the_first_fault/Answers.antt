use Rattle.slicc_ast.proofs.FirstFault.{stop_is_first_fault}
use Rattle.slicc_ast.proofs.Steps.{passed_is_front, failed_is_fault}
use Rattle.slicc_ast.proofs.Tables.{predictive_by}
use Rattle.slicc_ast.proofs.table_laws.reader_stops_at_the_first_fault.Goals as goal

pub returns : goal.returns
returns g c = record { reader = stop_is_first_fault; passes = passed_is_front; fails = failed_is_fault; computed = predictive_by }
