use Rattle.slicc_flow.proofs.Judged.{named}
use Rattle.slicc_flow.proofs.machine.names_of.Goals as goal

pub returns-clause-names : goal.returns-clause-names
returns-clause-names c =
    named c.args.scopes.now.trees.now c.args.scope c.args.m.now c.new.result c.in_ok-functions.functions c.in_ok-tables.tables c.in_ok-directories.directories c.requires
    c.new.ensures.functions c.new.ensures.tables c.new.ensures.directories c.in_ok-functions.ensures.names c.in_ok-tables.ensures c.in_ok-directories.ensures
