use Rattle.std.proofs.Common.{◌≡◌, ◌<◌, ◌∙◌, ℕ, arith, refl, sym}
use Rattle.ctl_tables.specs.declared.change.Edit.TheVariants as edit
use Rattle.ctl_tables.specs.Prelude.{loses_lines, log_of, tables_now, tables_of, allocate_in}
use Rattle.ctl_tables.proofs.Adding.{add_done_by, add_full, add_nothing, add_present}
use Rattle.ctl_tables.proofs.Doing.{does_by_log, replays_by_log}
use Rattle.ctl_tables.proofs.Steps.{kind_now}
use Rattle.ctl_tables.proofs.held.Tables.add.Goals as goal

some_left : (n left : ℕ) → (n ≡ 0 → ⊥) → n ≡ left → 0 < left
some_left n left some is = omega arith

pub returns-then-not-loses_lines-clause-does : goal.returns-then-not-loses_lines-clause-does
returns-then-not-loses_lines-clause-does c =
    let kind = kind_now c.args.table (log_of c.args.changes.now) (tables_of c.args.self.now) c.requires c.loses_lines.ensures.law loses_lines c.loses_lines.result c.loses_lines.ensures.kind in
    add_nothing (tables_now c.args.self.now c.args.changes.now) c.args.table c.args.line c.args.initial.now (kind ∙ c.if-not-loses_lines.true)

pub returns-then-has_line-clause-does : goal.returns-then-has_line-clause-does
returns-then-has_line-clause-does c =
    let kind = kind_now c.args.table (log_of c.args.changes.now) (tables_of c.args.self.now) c.requires c.loses_lines.ensures.law loses_lines c.loses_lines.result c.loses_lines.ensures.kind in
    (add_present (tables_now c.args.self.now c.args.changes.now) c.args.table c.args.line c.args.initial.now (kind ∙ c.if-not-loses_lines.false) (sym c.has_line.ensures ∙ c.if-has_line.true), refl)

pub returns-then-room-eq0-clause-does : goal.returns-then-room-eq0-clause-does
returns-then-room-eq0-clause-does c =
    let kind = kind_now c.args.table (log_of c.args.changes.now) (tables_of c.args.self.now) c.requires c.loses_lines.ensures.law loses_lines c.loses_lines.result c.loses_lines.ensures.kind in
    (add_full (tables_now c.args.self.now c.args.changes.now) c.args.table c.args.line c.args.initial.now (kind ∙ c.if-not-loses_lines.false) (sym c.has_line.ensures ∙ c.if-has_line.false) (sym c.room.ensures ∙ c.if-room-eq0.true), refl)

pub returns-in-Ok-clause-does : goal.returns-in-Ok-clause-does
returns-in-Ok-clause-does c =
    let kind = kind_now c.args.table (log_of c.args.changes.now) (tables_of c.args.self.now) c.requires c.loses_lines.ensures.law loses_lines c.loses_lines.result c.loses_lines.ensures.kind in
    does_by_log c.log.result (log_of c.args.changes.now) (log_of c.log.new.self) (tables_of c.args.self.now) (record { table = c.args.table; line = c.args.line; edit = edit.Add c.in-Ok.fields })
    (allocate_in (tables_now c.args.self.now c.args.changes.now) c.args.table c.args.line c.args.initial.now)
    (add_done_by (tables_now c.args.self.now c.args.changes.now) c.args.table c.args.line c.args.initial.now c.in-Ok.fields c.in-Ok.ensures.cases (kind ∙ c.if-not-loses_lines.false) (sym c.has_line.ensures ∙ c.if-has_line.false) (some_left c.room.result _ c.if-room-eq0.false c.room.ensures))
    c.log.ensures.ok c.log.ensures.err c.log.ensures.memory

pub returns-in-Ok-clause-replays : goal.returns-in-Ok-clause-replays
returns-in-Ok-clause-replays c =
    let kind = kind_now c.args.table (log_of c.args.changes.now) (tables_of c.args.self.now) c.requires c.loses_lines.ensures.law loses_lines c.loses_lines.result c.loses_lines.ensures.kind in
    replays_by_log c.log.result (log_of c.args.changes.now) (log_of c.log.new.self) (tables_of c.args.self.now) (record { table = c.args.table; line = c.args.line; edit = edit.Add c.in-Ok.fields })
    (add_done_by (tables_now c.args.self.now c.args.changes.now) c.args.table c.args.line c.args.initial.now c.in-Ok.fields c.in-Ok.ensures.cases (kind ∙ c.if-not-loses_lines.false) (sym c.has_line.ensures ∙ c.if-has_line.false) (some_left c.room.result _ c.if-room-eq0.false c.room.ensures)).can
    c.requires c.log.ensures.ok c.log.ensures.err
