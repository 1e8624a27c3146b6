use Rattle.std.proofs.Common.{◌∙◌, ap, sym}
use Rattle.std.specs.Bool.{nat_lt}
use Rattle.ctl_tables.specs.Prelude.{keeps_order, log_of, tables_now, tables_of}
use Rattle.ctl_tables.proofs.Adding.{avail_left, avail_other, avail_there}
use Rattle.ctl_tables.proofs.Steps.{kind_now}
use Rattle.ctl_tables.proofs.held.Tables.avail.Goals as goal

pub returns-then-not-keeps_order : goal.returns-then-not-keeps_order
returns-then-not-keeps_order c =
    let kind = kind_now c.args.table (log_of c.args.changes.now) (tables_of c.args.self.now) c.requires c.keeps_order.ensures.law keeps_order c.keeps_order.result c.keeps_order.ensures.kind in
    sym (avail_other (tables_now c.args.self.now c.args.changes.now) c.args.table c.args.line (kind ∙ c.if-not-keeps_order.true))

pub returns-then-has_line : goal.returns-then-has_line
returns-then-has_line c =
    sym (avail_there (tables_now c.args.self.now c.args.changes.now) c.args.table c.args.line (sym c.has_line.ensures ∙ c.if-has_line.true))

pub returns : goal.returns
returns c =
    let kind = kind_now c.args.table (log_of c.args.changes.now) (tables_of c.args.self.now) c.requires c.keeps_order.ensures.law keeps_order c.keeps_order.result c.keeps_order.ensures.kind in
    ap (nat_lt 0) c.room.ensures ∙ avail_left (tables_now c.args.self.now c.args.changes.now) c.args.table c.args.line (kind ∙ c.if-not-keeps_order.false) (sym c.has_line.ensures ∙ c.if-has_line.false)
