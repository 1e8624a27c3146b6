use Rattle.std.proofs.Common.{rules}
use Rattle.slicc_names.proofs.Parts.{each_formal}
use Rattle.slicc_names.proofs.scopes.MemberScoped.in_scopes.Goals as goal

pub returns-in-Method : goal.returns-in-Method
returns-in-Method c = search (rules, each_formal)
