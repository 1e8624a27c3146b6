use Rattle.std.proofs.Common.{subst, sym}
use Rattle.ruby_topology.specs.Prelude.{IsRow}
use Rattle.ruby_topology.proofs.Rows.{computed_is_row}
use Rattle.ruby_topology.proofs.paths.row.Goals as goal

pub returns-in_ok-row-in_default : goal.returns-in_ok-row-in_default
returns-in_ok-row-in_default c =
    subst (IsRow c.args.network c.args.links.now c.args.total c.args.from) (sym c.in_ok-row-in_default.ensures)
    (computed_is_row c.args.network c.args.links.now c.args.total c.args.from c.in_default.not-Links)
