use Rattle.std.proofs.Common.{◌≡◌, ◌<◌, length, subst, sym, ◌∙◌, arith}
use Rattle.std.specs.List.{All}
use Rattle.ctl_mail.specs.Prelude.{HasPlaces}
use Rattle.ctl_mail.proofs.Places.{loses-none, places-more}
use Rattle.ctl_mail.proofs.Logs.{none-placed, there-is}
use Rattle.ctl_mail.proofs.make.reserve_places.Goals as goal

pub reserve_place-requires : goal.reserve_place-requires
reserve_place-requires c = record { mail = c.loop-i.invariant.mail; few = omega (arith, c.len-more.ensures.small) }

pub loop-i-preserved : goal.loop-i-preserved
loop-i-preserved c =
    let within : c.loop-i.i < length c.args.changes.now.log.kept = omega (arith, c.loop-i-test.true, c.len-i-end.ensures.count) in
    record {
      same = c.reserve_place.ensures.same ∙ c.loop-i.invariant.same;
      mail = c.reserve_place.ensures.mail;
      buffers = c.reserve_place.ensures.buffers ∙ c.loop-i.invariant.buffers;
      marks = c.reserve_place.ensures.marks ∙ c.loop-i.invariant.marks;
      stalls = c.reserve_place.ensures.stalls ∙ c.loop-i.invariant.stalls;
      places = loses-none c.args.store.now c.loop-i.store c.reserve_place.new.store c.loop-i.invariant.places c.reserve_place.ensures.places;
      made = places-more c.loop-i.store c.reserve_place.new.store c.args.changes.now.log.kept c.len-more.result c.loop-i.i c.at.result.now c.reserve_place.ensures.places c.in_ok-reserve_place.ensures.ok within (there-is c.args.changes.now.log.kept c.loop-i.i c.at.result.now within c.at.ensures) c.loop-i.invariant.made;
    }

pub returns-clause-ok : goal.returns-clause-ok
returns-clause-ok c =
    let same : c.len-more.result ≡ length c.args.changes.now.log.kept = omega (arith, c.len-more.ensures.count) in
    subst (λ n. All (HasPlaces c.loop-i.store n) c.args.changes.now.log.kept) same
    (λ k d within. c.loop-i.invariant.made k d (omega (arith, within, c.loop-i-test.false, c.len-i-end.ensures.count)))

pub returns-then-placed_count-eq0-clause-ok : goal.returns-then-placed_count-eq0-clause-ok
returns-then-placed_count-eq0-clause-ok c =
    none-placed c.args.store.now (length c.args.changes.now.log.kept) c.args.changes.now.log.kept (sym c.placed_count.ensures ∙ c.if-placed_count-eq0.true)
