use Rattle.std.proofs.Common.{◌∙◌, ℕ, Option, Some, ap, sym}
use Rattle.ruby_value.specs.Prelude.{set_of}
use Rattle.ctl_face.specs.Prelude.{CacheTable}
use Rattle.ctl_tables.specs.Prelude.{frame_of, first_used, numbers_of}
use Rattle.ctl_tables.proofs.Recent.{least_is}
use Rattle.ctl_tables.proofs.Stays.{kept_or}
use Rattle.ctl_tables.proofs.recency.least_used.Goals as goal

pub returns-in-Some : goal.returns-in-Some
returns-in-Some c =
    let frame = Some (frame_of (CacheTable c.args.cache.now)) in
    ap (λ (o : Option ℕ). kept_or o (first_used frame c.args.table c.args.line c.args.log.now)) c.in-Some.ensures
    ∙ sym (least_is frame c.args.table c.args.line c.args.log.now (numbers_of (set_of c.args.cache.now c.args.line)))

pub returns-in-None : goal.returns-in-None
returns-in-None c =
    let frame = Some (frame_of (CacheTable c.args.cache.now)) in
    c.first_used.ensures ∙ ap (λ (o : Option ℕ). kept_or o (first_used frame c.args.table c.args.line c.args.log.now)) c.in-None.ensures
    ∙ sym (least_is frame c.args.table c.args.line c.args.log.now (numbers_of (set_of c.args.cache.now c.args.line)))
