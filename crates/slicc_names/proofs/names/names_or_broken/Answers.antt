use Rattle.slicc_plan.specs.Prelude.{broken_declarations}
use Rattle.slicc_names.proofs.FirstOfAll.{is_none, is_some}
use Rattle.slicc_names.proofs.names.names_or_broken.Goals as goal

pub returns-in-Some : goal.returns-in-Some
returns-in-Some c = is_some (broken_declarations c.args.scopes.now.trees.now) c.in_ok-b.field-0 c.in-Some.b c.in_ok-b.ensures c.in-Some.is

pub returns-in_ok-new-in-None : goal.returns-in_ok-new-in-None
returns-in_ok-new-in-None c = (is_none (broken_declarations c.args.scopes.now.trees.now) c.in_ok-b.field-0 c.in_ok-b.ensures c.in-None.is, c.in_ok-new-in-None.ensures)
