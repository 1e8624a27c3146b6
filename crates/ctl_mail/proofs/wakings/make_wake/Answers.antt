use Rattle.std.proofs.Common.{◌≡◌, ◌⊎◌, ◌↔◌, ◌≤◌, ◌+◌, ℕ, List, sym, subst, ap, ◌∙◌, length, All, Contains, arith}
use Rattle.ruby_value.specs.declared.message.Message.{Message}
use Rattle.stall_map.specs.Prelude.{messages_under, without_line}
use Rattle.msg_buffer.specs.Prelude.{IsNew}
use Rattle.ctl_mail.specs.Prelude.{queue_of, room_of}
use Rattle.ctl_mail.proofs.Backs.{Apart}
use Rattle.ctl_mail.proofs.Places.{no-more}
use Rattle.ctl_mail.proofs.WakeMakes.{made-wake, new-in-home, room-at-home, under-apart, under-count}
use Rattle.ctl_mail.proofs.wakings.make_wake.Goals as goal

pub put_back-requires-clause-apart : goal.put_back-requires-clause-apart
put_back-requires-clause-apart c =
    let is = c.into_vec.ensures ∙ c.wake-woken.ensures.woken in
    subst Apart (sym is) (under-apart c.args.store.now.stalls.kept c.args.line c.len-waiting.ensures.order)

pub put_back-requires-clause-new : goal.put_back-requires-clause-new
put_back-requires-clause-new c =
    let store = c.args.store.now in
    let is = c.into_vec.ensures ∙ c.wake-woken.ensures.woken in
    subst (All (λ (m : Message). IsNew (queue_of store.buffers.items m.buffer) m.number)) (sym is)
    (new-in-home store.buffers.items store.stalls.kept c.args.line c.requires.mail.holds)

pub put_back-requires-clause-room : goal.put_back-requires-clause-room
put_back-requires-clause-room c =
    let store = c.args.store.now in
    let is = c.into_vec.ensures ∙ c.wake-woken.ensures.woken in
    subst (λ (xs : List Message). All (λ (m : Message). length xs ≤ room_of store.buffers.items m.buffer) xs) (sym is)
    (room-at-home store.buffers.items store.stalls.kept c.args.line c.requires.mail.holds c.requires.places)

pub returns-clause-after : goal.returns-clause-after
returns-clause-after c =
    let store = c.args.store.now in
    let is = c.into_vec.ensures ∙ c.wake-woken.ensures.woken in
    (made-wake store c.put_back.new.buffers c.wake-woken.new.self c.args.line c.requires.mail
    (subst (λ (xs : List Message). (buffer : ℕ) (m : Message) → Contains (queue_of c.put_back.new.buffers.items buffer) m ↔ (Contains (queue_of store.buffers.items buffer) m ⊎ (Contains xs m × (m.buffer ≡ buffer)))) is c.put_back.ensures.queues)
    c.put_back.ensures.count c.wake-woken.ensures.others).0

pub returns-clause-mail : goal.returns-clause-mail
returns-clause-mail c =
    let store = c.args.store.now in
    let is = c.into_vec.ensures ∙ c.wake-woken.ensures.woken in
    (made-wake store c.put_back.new.buffers c.wake-woken.new.self c.args.line c.requires.mail
    (subst (λ (xs : List Message). (buffer : ℕ) (m : Message) → Contains (queue_of c.put_back.new.buffers.items buffer) m ↔ (Contains (queue_of store.buffers.items buffer) m ⊎ (Contains xs m × (m.buffer ≡ buffer)))) is c.put_back.ensures.queues)
    c.put_back.ensures.count c.wake-woken.ensures.others).1

pub returns-clause-places : goal.returns-clause-places
returns-clause-places c = record {
  buffers = λ buffer.
      let stalled = c.args.store.now.stalls.kept in
      let is = c.into_vec.ensures ∙ c.wake-woken.ensures.woken in
      let room : room_of c.args.store.now.buffers.items buffer ≤ room_of c.put_back.new.buffers.items buffer + length (messages_under stalled c.args.line) =
      subst (λ (xs : List Message). room_of c.args.store.now.buffers.items buffer ≤ room_of c.put_back.new.buffers.items buffer + length xs) is (c.put_back.ensures.room buffer) in
      let count : length (messages_under stalled c.args.line) + length (without_line stalled c.args.line) ≤ length stalled = under-count stalled c.args.line in
      let left : length c.wake-woken.new.self.kept ≡ length (without_line stalled c.args.line) = ap length c.wake-woken.ensures.others in
      omega arith;
  networks = λ network n has. no-more c.args.store.now.network_last.items network n (n + 0) (omega arith) has;
  locals = omega arith;
  lent = omega arith;
  credits = omega arith;
}
