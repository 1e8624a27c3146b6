use Rattle.std.proofs.Common.{rules}
use Rattle.slicc_same.proofs.Bools.{and_false}
use Rattle.slicc_same.proofs.declaration.MemberSame.same.Goals as goal

pub returns-in_default-2 : goal.returns-in_default-2
returns-in_default-2 c = search (rules, and_false)

pub returns-in_default-3 : goal.returns-in_default-3
returns-in_default-3 c = search (rules, and_false)
