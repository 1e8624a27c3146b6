use Rattle.slicc_plan.proofs.SetupParts.{buffers_counted, tables_counted}
use Rattle.slicc_plan.proofs.setup.setup_has_its_parts.Goals as goal

pub returns-clause-tables : goal.returns-clause-tables
returns-clause-tables c = tables_counted

pub returns-clause-buffers : goal.returns-clause-buffers
returns-clause-buffers c = buffers_counted
