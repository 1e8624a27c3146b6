use Rattle.std.proofs.Common.{◌<◌, ℕ, is_some, sym, ap, subst, ◌∙◌, length, arith}
use Rattle.ctl_face.specs.Prelude.{InboxMessage, Mail, woken_mail}
use Rattle.stall_map.specs.Prelude.{without_line}
use Rattle.ctl_mail.specs.Prelude.{mail_of}
use Rattle.ctl_mail.proofs.Places.{loses-none}
use Rattle.ctl_mail.proofs.WakeMakes.{all-after-line, fewer, none-waits}
use Rattle.ctl_mail.proofs.wakings.make_wake_all.Goals as goal

pub loop-line-smaller : goal.loop-line-smaller
loop-line-smaller c =
    let stalled = c.loop-line.store.stalls.kept in
    let so = c.in-Some.ensures.some in
    let less : length (without_line stalled c.in-Some.line) < length stalled = fewer stalled c.in-Some.line so.0 so.1 in
    omega (arith, ap length c.make_wake.ensures.stalled)

pub loop-line-preserved : goal.loop-line-preserved
loop-line-preserved c =
    let old = c.loop-line.store in
    let new = c.make_wake.new.store in
    record {
      leads =
          ap (λ (mail : Mail). woken_mail mail (λ (o : InboxMessage). is_some o.waiting)) c.make_wake.ensures.after
          ∙ (all-after-line (mail_of old) c.in-Some.line ∙ c.loop-line.invariant.leads);
      mail = c.make_wake.ensures.mail;
      buffers = c.make_wake.ensures.buffers ∙ c.loop-line.invariant.buffers;
      marks = omega (arith, c.make_wake.ensures.room, c.loop-line.invariant.marks);
      waits = omega (arith, c.make_wake.ensures.waits, c.loop-line.invariant.waits);
      places = loses-none c.args.store.now old new c.loop-line.invariant.places c.make_wake.ensures.places;
      room = λ buffer within.
          let there : buffer < length old.buffers.items = subst (λ (n : ℕ). buffer < n) c.make_wake.ensures.buffers within in
          omega (arith, c.make_wake.ensures.places.buffers buffer, c.loop-line.invariant.room buffer there);
    }

pub returns-clause-after : goal.returns-clause-after
returns-clause-after c = sym (none-waits c.loop-line.store c.loop-line.invariant.mail c.in_default.ensures.none) ∙ c.loop-line.invariant.leads
