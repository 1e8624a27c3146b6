use Rattle.std.proofs.Common.{◌≡◌, ◌≤◌, ◌+◌, Some, slice_get, slice_set, refl, sym, ◌∙◌, arith}
use Rattle.ctl_mail.proofs.Edits.{queue-at, read-at, replaces, room-at, rooms, set-here}
use Rattle.ctl_mail.specs.Prelude.{queue_of, room_of}
use Rattle.ctl_mail.proofs.Places.{ok-then}
use Rattle.ctl_mail.proofs.Pops.{replaced-same}
use Rattle.ctl_mail.proofs.queues.reserve_at.Goals as goal

pub returns-in-Some-clause-same : goal.returns-in-Some-clause-same
returns-in-Some-clause-same c =
    let queues = c.args.buffers.now.items in
    let at = c.from.result in
    let there : slice_get queues at ≡ Some c.in-Some.queue.now =
    read-at queues at c.in-Some.queue.now (omega (arith, c.in-Some.ensures.variant.0 refl, c.args.buffers.now.ok.0)) c.in-Some.ensures.value in
    replaced-same queues _ at
    (replaces queues at at c.in-Some.queue.now c.reserve.new.self (queue_of queues at) refl there (c.reserve.ensures.same ∙ sym (queue-at queues at at c.in-Some.queue.now refl there)))

pub returns-in-Some-clause-ok : goal.returns-in-Some-clause-ok
returns-in-Some-clause-ok c =
    let queues = c.args.buffers.now.items in
    let at = c.from.result in
    let there : slice_get queues at ≡ Some c.in-Some.queue.now =
    read-at queues at c.in-Some.queue.now (omega (arith, c.in-Some.ensures.variant.0 refl, c.args.buffers.now.ok.0)) c.in-Some.ensures.value in
    ok-then c.reserve.result
    (λ (room : c.args.more ≤ c.reserve.new.self.room). rw (room-at (slice_set queues at c.reserve.new.self) at c.args.buffer c.reserve.new.self c.from.ensures (set-here queues at c.in-Some.queue.now c.reserve.new.self there)) room)
    c.reserve.ensures.ok

pub returns-in-Some-clause-room : goal.returns-in-Some-clause-room
returns-in-Some-clause-room c =
    let queues = c.args.buffers.now.items in
    let at = c.from.result in
    let there : slice_get queues at ≡ Some c.in-Some.queue.now =
    read-at queues at c.in-Some.queue.now (omega (arith, c.in-Some.ensures.variant.0 refl, c.args.buffers.now.ok.0)) c.in-Some.ensures.value in
    λ buffer.
    let so : room_of queues buffer ≤ room_of _ buffer + 0 = rooms queues at c.in-Some.queue.now c.reserve.new.self 0 there (omega (arith, c.reserve.ensures.no_less)) buffer in
    omega arith
