use Rattle.std.proofs.Common.{rules}
use Rattle.slicc_names.proofs.Parts.{each_formal}
use Rattle.slicc_names.proofs.scopes.in_function.Goals as goal

pub returns-in-None : goal.returns-in-None
returns-in-None c = search (rules, each_formal)

pub returns-in-Some : goal.returns-in-Some
returns-in-Some c = search (rules, each_formal)
