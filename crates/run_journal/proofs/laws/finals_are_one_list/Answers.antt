use Rattle.run_journal.proofs.FinalStates.{same_finals}
use Rattle.run_journal.proofs.SomeFinals.{some_finals}
use Rattle.run_journal.proofs.laws.finals_are_one_list.Goals as goal

pub returns-clause-at_least_one : goal.returns-clause-at_least_one
returns-clause-at_least_one c = some_finals

pub returns-clause-at_most_one : goal.returns-clause-at_most_one
returns-clause-at_most_one c = same_finals
