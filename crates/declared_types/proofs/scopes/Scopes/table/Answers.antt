use Rattle.std.proofs.Common.{inl, inr, arith}
use Rattle.declared_types.proofs.ScopeTables.{table_known}
use Rattle.declared_types.proofs.scopes.Scopes.table.Goals as goal
use Rattle.declared_types.proofs.scopes.Scopes.table.Goals.{then-number-len, else-number-len}

pub returns : goal.returns
returns c =
    table_known c.args.self.now.trees.now c.args.self.now.tables c.args.number c.if-number-len.known c.index.result.now c.args.self.now.tabled
    (elim c.if-number-len.branch [ then-number-len w ↦ inl (omega arith, w.known-is) | else-number-len w ↦ inr (omega arith, w.known-is) ])
    c.index.ensures
