use Rattle.std.proofs.Common.{ap}
use Rattle.declared_types.specs.Prelude.{declarations_of, scope_of}
use Rattle.declared_types.proofs.ScopeTables.{machines_added, tables_right}
use Rattle.declared_types.proofs.tables.all_tables.Goals as goal

pub returns : goal.returns
returns c =
    tables_right c.args.trees.now _ _ c.in_ok-protocol.protocol c.in_ok-declarations.declarations c.in_ok-declarations.ensures
    (machines_added _ _ _ c.in_ok-declarations.declarations c.new-machines.ensures c.deref.ensures c.in_ok-add_machines.ensures)
    (ap scope_of c.in_ok-protocol.ensures.scope) (ap declarations_of c.in_ok-protocol.ensures.declarations) c.in_ok-insert.ensures.ok
