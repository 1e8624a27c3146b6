use Rattle.slicc_plan.proofs.NoReferences.{all_tables_plain, buffers_plain}
use Rattle.slicc_plan.proofs.setup.no_field_is_a_reference.Goals as goal

pub returns-clause-tables : goal.returns-clause-tables
returns-clause-tables c = all_tables_plain

pub returns-clause-buffers : goal.returns-clause-buffers
returns-clause-buffers c = buffers_plain
