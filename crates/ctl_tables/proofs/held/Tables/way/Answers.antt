use Rattle.std.proofs.Common.{◌∙◌, refl, sym}
use Rattle.ctl_tables.specs.Prelude.{table_of, log_of, tables_of}
use Rattle.ctl_tables.proofs.Finding.{nowhere, way_absent, way_as_before, way_kept}
use Rattle.ctl_tables.proofs.Readings.{kept_is_told, kept_untold, line_told, line_untold}
use Rattle.ctl_tables.proofs.held.Tables.way.Goals as goal

pub returns-in_default : goal.returns-in_default
returns-in_default c = nowhere (log_of c.args.changes.now) (tables_of c.args.self.now) c.args.table c.args.line c.requires c.stored.ensures.law (sym c.in_default.ensures.there)

pub returns-then-is_there : goal.returns-then-is_there
returns-then-is_there c =
    way_kept (log_of c.args.changes.now) (tables_of c.args.self.now) c.args.table c.args.line c.requires c.stored.ensures.law (table_of c.in-Some.stored.now) (sym c.in-Some.ensures.there)
    (kept_is_told c.args.changes.now.log.items c.args.changes.now.log.items (tables_of c.args.self.now) c.args.table c.args.line refl c.requires c.stored.ensures.law c.in-Some-newest.change.now c.in-Some-newest.ensures ∙ sym c.is_there.ensures ∙ c.if-is_there.true)

pub returns-else-is_there : goal.returns-else-is_there
returns-else-is_there c =
    way_absent (log_of c.args.changes.now) (tables_of c.args.self.now) c.args.table c.args.line c.requires c.stored.ensures.law (table_of c.in-Some.stored.now) (sym c.in-Some.ensures.there)
    (line_told c.args.changes.now.log.items c.args.changes.now.log.items (tables_of c.args.self.now) c.args.table c.args.line refl c.requires c.stored.ensures.law c.in-Some-newest.change.now c.in-Some-newest.ensures ∙ sym c.is_there.ensures ∙ c.if-is_there.false)

pub returns-in-None : goal.returns-in-None
returns-in-None c =
    way_as_before (log_of c.args.changes.now) (tables_of c.args.self.now) c.args.table c.args.line c.requires c.stored.ensures.law (table_of c.in-Some.stored.now) (sym c.in-Some.ensures.there)
    (kept_untold c.args.changes.now.log.items c.args.changes.now.log.items (tables_of c.args.self.now) c.args.table c.args.line refl c.requires c.stored.ensures.law c.in-None.ensures)
    (line_untold c.args.changes.now.log.items c.args.changes.now.log.items (tables_of c.args.self.now) c.args.table c.args.line refl c.requires c.stored.ensures.law c.in-None.ensures)
    c.way.result c.way.ensures
