use Rattle.std.proofs.Common.{◌≡◌, ◌≤◌, ◌<◌, ◌+◌, ap, sym, subst, ◌∙◌, length, List, arith}
use Rattle.ruby_value.specs.Prelude.{Roomy}
use Rattle.stall_map.specs.declared.stalled.Stalled.{Stalled}
use Rattle.ctl_mail.specs.Prelude.{mail_of, room_of}
use Rattle.ctl_mail.proofs.Inboxes.{inbox-ascends}
use Rattle.ctl_mail.proofs.Places.{loses-more, no-more}
use Rattle.ctl_mail.proofs.StallActs.{after-stall, made-stall, new-stalled, one-more}
use Rattle.ctl_mail.proofs.stalls.make_stall.Goals as goal

pub put_reserved-requires-clause-new : goal.put_reserved-requires-clause-new
put_reserved-requires-clause-new c = new-stalled c.take.new.store c.take.new.store.stalls c.args.line c.in-Some.m c.take.ensures.mail c.in-Some.ensures.new

pub returns-clause-after : goal.returns-clause-after
returns-clause-after c =
    let old = c.args.store.now in
    let mid = c.take.new.store in
    let home = subst (λ n. c.in-Some.m.buffer < n) (sym c.take.ensures.buffers) c.in-Some.ensures.home in
    (made-stall mid c.put_reserved.new.self c.args.line c.in-Some.m c.take.ensures.mail c.in-Some.ensures.new c.put_reserved.ensures.after home).0
    ∙ after-stall (mail_of old) (mail_of mid) c.args.buffer c.args.line c.args.now c.in-Some.m (inbox-ascends old.buffers.items old.stalls.kept)
    (sym c.in-Some.is ∙ c.take.ensures.value) c.in-Some.ensures.taken

pub returns-clause-mail : goal.returns-clause-mail
returns-clause-mail c =
    let mid = c.take.new.store in
    let home = subst (λ n. c.in-Some.m.buffer < n) (sym c.take.ensures.buffers) c.in-Some.ensures.home in
    (made-stall mid c.put_reserved.new.self c.args.line c.in-Some.m c.take.ensures.mail c.in-Some.ensures.new c.put_reserved.ensures.after home).1

pub returns-clause-places : goal.returns-clause-places
returns-clause-places c = record {
  buffers = λ buffer.
      let rooms : room_of c.args.store.now.buffers.items buffer ≤ room_of c.take.new.store.buffers.items buffer = c.take.ensures.rooms buffer in
      let one : length c.put_reserved.new.self.kept ≤ length c.take.new.store.stalls.kept + 1 =
      subst (λ xs. length xs ≤ length c.take.new.store.stalls.kept + 1) (sym c.put_reserved.ensures.after) (one-more c.take.new.store.stalls.kept c.args.line c.in-Some.m) in
      let same : length c.take.new.store.stalls.kept ≡ length c.args.store.now.stalls.kept = ap (λ (s : Roomy (List Stalled)). length s.kept) c.take.ensures.stalls in
      omega arith;
  networks = λ network n has.
      c.take.ensures.places.networks network n (no-more c.args.store.now.network_last.items network (n + 0) (n + 1) (omega arith) has);
  locals = omega (arith, c.take.ensures.places.locals);
  lent = omega (arith, c.take.ensures.places.lent);
  credits = omega (arith, c.take.ensures.places.credits);
}

pub returns-in_default-clause-places : goal.returns-in_default-clause-places
returns-in_default-clause-places c = loses-more c.args.store.now c.take.new.store c.take.ensures.places
