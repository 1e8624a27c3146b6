use Rattle.network_book.proofs.Numbering.{history-back, of-others, owner-of}
use Rattle.network_book.proofs.laws.events_have_numbers.Goals as goal

pub returns-clause-back : goal.returns-clause-back
returns-clause-back c = history-back

pub returns-clause-owner : goal.returns-clause-owner
returns-clause-owner c = owner-of

pub returns-clause-others : goal.returns-clause-others
returns-clause-others c = of-others
