use Rattle.std.proofs.Common.{◌≤◌, ◌+◌, ◌∙◌, Some, ap, arith, cond, drop, length, sym}
use Rattle.std.specs.List.{find}
use Rattle.ruby_value.proofs.CacheSets.{set_lines}
use Rattle.ruby_value.specs.Prelude.{set_of}
use Rattle.ctl_tables.specs.Prelude.{numbers_of, stays_in}
use Rattle.ctl_tables.proofs.Recent.{found_end, found_here, found_none}
use Rattle.ctl_tables.proofs.recency.first_unmoved.Goals as goal

pub returns-in_default : goal.returns-in_default
returns-in_default c =
    sym (sym c.loop-i.invariant ∙ found_none (stays_in c.args.table c.args.log.now) (set_of c.args.cache.now c.args.line) c.loop-i.i c.in_default.ensures)

pub returns-then-stays_in : goal.returns-then-stays_in
returns-then-stays_in c =
    let p = stays_in c.args.table c.args.log.now in
    let lines = set_of c.args.cache.now c.args.line in
    let x = c.in-Some.there in
    let rest = find p (drop (c.loop-i.i + 1) (numbers_of lines)) in
    sym (sym c.loop-i.invariant ∙ found_here p lines c.loop-i.i x c.in-Some.ensures ∙ ap (λ b. cond b (Some x) rest) (sym c.stays_in.ensures ∙ c.if-stays_in.true))

pub loop-i-preserved : goal.loop-i-preserved
loop-i-preserved c =
    let p = stays_in c.args.table c.args.log.now in
    let lines = set_of c.args.cache.now c.args.line in
    let x = c.in-Some.there in
    let rest = find p (drop (c.loop-i.i + 1) (numbers_of lines)) in
    sym (found_here p lines c.loop-i.i x c.in-Some.ensures ∙ ap (λ b. cond b (Some x) rest) (sym c.stays_in.ensures ∙ c.if-stays_in.false)) ∙ c.loop-i.invariant

pub returns : goal.returns
returns c =
    let lines = set_of c.args.cache.now c.args.line in
    let within = (set_lines c.args.cache.now c.args.line c.ways-i-end.ensures.lawful.lawful_sets).0 in
    let past : length lines ≤ c.loop-i.i = omega (arith, within, c.ways-i-end.ensures.ways) in
    sym (sym c.loop-i.invariant ∙ found_end (stays_in c.args.table c.args.log.now) lines c.loop-i.i past)
