use Rattle.std.proofs.Common.{◌∙◌, List, Option, Some, ap, reverse, slice_get, sym}
use Rattle.std.specs.Option.{option_map}
use Rattle.ruby_value.specs.Prelude.{set_of}
use Rattle.ctl_face.specs.Prelude.{least_used_in, CacheTable, Table}
use Rattle.ctl_tables.specs.declared.change.TableChange.{TableChange}
use Rattle.ctl_tables.specs.Prelude.{frame_of, keeps_order, numbers_of, order_after, log_of, tables_now, tables_of}
use Rattle.ctl_tables.proofs.Finding.{nowhere}
use Rattle.ctl_tables.proofs.Recent.{least_now, none_least}
use Rattle.ctl_tables.proofs.Steps.{kind_now}
use Rattle.ctl_tables.proofs.held.Tables.least_used.Goals as goal

pub returns-in_default : goal.returns-in_default
returns-in_default c = sym (ap (λ (o : Option Table). least_used_in o c.args.line) (nowhere (log_of c.args.changes.now) (tables_of c.args.self.now) c.args.table c.args.line c.requires c.stored.ensures.law (sym c.in_default.ensures.there)))

pub returns-in-Some-cache : goal.returns-in-Some-cache
returns-in-Some-cache c =
    let cache = c.in-Some-cache.cache.now in
    c.least_used.ensures
    ∙ ap (λ (items : List TableChange). slice_get (order_after (Some (frame_of (CacheTable cache))) c.args.table c.args.line (numbers_of (set_of cache c.args.line)) (reverse items)) 0) c.deref.ensures.value
    ∙ sym (least_now (log_of c.args.changes.now) (tables_of c.args.self.now) c.args.table c.args.line c.requires c.stored.ensures.law cache (sym c.in-Some.ensures.there ∙ ap Some c.in-Some-cache.ensures.some))

pub returns-in-None : goal.returns-in-None
returns-in-None c =
    let kind = kind_now c.args.table (log_of c.args.changes.now) (tables_of c.args.self.now) c.requires c.stored.ensures.law keeps_order _ (sym (ap (λ (o : Option Table). keeps_order (option_map frame_of o)) (sym c.in-Some.ensures.there) ∙ c.in-None.ensures.none)) in
    sym (none_least (slice_get (tables_now c.args.self.now c.args.changes.now) c.args.table) c.args.line kind)
