use Rattle.std.proofs.Common.{rules}
use Rattle.slicc_names.proofs.Parts.{each_state, each_symbol}
use Rattle.slicc_names.proofs.scopes.DeclScoped.in_scopes.Goals as goal

pub returns-in-States : goal.returns-in-States
returns-in-States c = search (rules, each_state)

pub returns-in-Enumeration : goal.returns-in-Enumeration
returns-in-Enumeration c = search (rules, each_symbol)
