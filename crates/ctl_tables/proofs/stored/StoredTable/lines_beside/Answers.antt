use Rattle.std.proofs.Common.{arith}
use Rattle.ruby_value.proofs.CacheSets.{set_lines}
use Rattle.ctl_tables.proofs.stored.StoredTable.lines_beside.Goals as goal

pub returns-in-Cache-clause-small : goal.returns-in-Cache-clause-small
returns-in-Cache-clause-small c = omega (arith, (set_lines c.in-Cache.cache c.args.line c.ways-most.ensures.lawful.lawful_sets).0)
