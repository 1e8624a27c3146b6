use Rattle.std.proofs.Common.{rules}
use Rattle.slicc_names.proofs.Parts.{each_symbol}
use Rattle.slicc_names.proofs.scopes.ItemScoped.in_scopes.Goals as goal

pub returns-in-Enumeration : goal.returns-in-Enumeration
returns-in-Enumeration c = search (rules, each_symbol)
