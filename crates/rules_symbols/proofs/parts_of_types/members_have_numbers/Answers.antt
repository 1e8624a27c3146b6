use Rattle.rules_symbols.proofs.Members.{member_is}
use Rattle.rules_symbols.proofs.parts_of_types.members_have_numbers.Goals as goal

pub returns : goal.returns
returns c = λ trees k m text called t members accepted at is listed among. member_is trees accepted k m at (c.types_have_numbers.ensures trees accepted) text called t members is listed among
