use Rattle.std.proofs.Common.{◌∙◌, ℕ, List, Option, refl, slice_get, sym, ap}
use Rattle.std.specs.Option.{option_and_then}
use Rattle.ruby_value.specs.declared.value.Value.{Value}
use Rattle.ctl_face.specs.Prelude.{fields_in, Table}
use Rattle.ctl_tables.specs.Prelude.{log_of, tables_of}
use Rattle.ctl_tables.proofs.Finding.{nowhere}
use Rattle.ctl_tables.proofs.Readings.{field_told, field_untold}
use Rattle.ctl_tables.proofs.held.Tables.field.Goals as goal

-- the value of a field, where the table is there
abbrev from : ℕ → ℕ → Option Table → Option Value
from line field o = option_and_then (λ (fields : List Value). slice_get fields field) (option_and_then (λ (t : Table). fields_in t line) o)

pub returns-in_default : goal.returns-in_default
returns-in_default c = sym (ap (from c.args.line c.args.field) (nowhere (log_of c.args.changes.now) (tables_of c.args.self.now) c.args.table c.args.line c.requires c.stored.ensures.law (sym c.in_default.ensures.there)))

pub returns-in-Some-newest : goal.returns-in-Some-newest
returns-in-Some-newest c = c.value.ensures ∙ sym (field_told c.args.changes.now.log.items c.args.changes.now.log.items (tables_of c.args.self.now) c.args.table c.args.line refl c.requires c.stored.ensures.law c.args.field c.in-Some-newest.change.now c.in-Some-newest.ensures)

pub returns-in-None : goal.returns-in-None
returns-in-None c = c.field.ensures ∙ ap (from c.args.line c.args.field) c.in-Some.ensures.there ∙ sym (field_untold c.args.changes.now.log.items c.args.changes.now.log.items (tables_of c.args.self.now) c.args.table c.args.line refl c.requires c.stored.ensures.law c.args.field c.in-None.ensures)
