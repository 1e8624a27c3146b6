use Rattle.std.proofs.Common.{◌∙◌, ℕ, Bool, Option, is_some, refl, sym, ap}
use Rattle.std.specs.Option.{option_and_then}
use Rattle.ctl_face.specs.Prelude.{fields_in, Table}
use Rattle.ctl_tables.specs.Prelude.{log_of, tables_of}
use Rattle.ctl_tables.proofs.Finding.{nowhere}
use Rattle.ctl_tables.proofs.Readings.{line_told, line_untold}
use Rattle.ctl_tables.proofs.held.Tables.has_line.Goals as goal

-- whether the line is there, where the table is
abbrev from : ℕ → Option Table → Bool
from line o = is_some (option_and_then (λ (t : Table). fields_in t line) o)

pub returns-in_default : goal.returns-in_default
returns-in_default c = sym (ap (from c.args.line) (nowhere (log_of c.args.changes.now) (tables_of c.args.self.now) c.args.table c.args.line c.requires c.stored.ensures.law (sym c.in_default.ensures.there)))

pub returns-in-Some-newest : goal.returns-in-Some-newest
returns-in-Some-newest c = c.is_there.ensures ∙ sym (line_told c.args.changes.now.log.items c.args.changes.now.log.items (tables_of c.args.self.now) c.args.table c.args.line refl c.requires c.stored.ensures.law c.in-Some-newest.change.now c.in-Some-newest.ensures)

pub returns-in-None : goal.returns-in-None
returns-in-None c = c.has_line.ensures ∙ ap (from c.args.line) c.in-Some.ensures.there ∙ sym (ap is_some (line_untold c.args.changes.now.log.items c.args.changes.now.log.items (tables_of c.args.self.now) c.args.table c.args.line refl c.requires c.stored.ensures.law c.in-None.ensures))
