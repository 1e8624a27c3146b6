use Rattle.std.proofs.Common.{◌≡◌, ◌<◌, ◌∙◌, List, None, Some, slice_get, refl, sym, subst, ap, arith}
use Rattle.ruby_value.specs.declared.message.Message.{Message}
use Rattle.msg_buffer.specs.Prelude.{IsNew, with_message}
use Rattle.ctl_mail.specs.Prelude.{queue_of}
use Rattle.ctl_mail.proofs.Edits.{past-end, queue-at, read-at, read-past, replaces, room-at, room-none, rooms}
use Rattle.ctl_mail.proofs.queues.put.Goals as goal

pub put_reserved-requires-clause-new : goal.put_reserved-requires-clause-new
put_reserved-requires-clause-new c =
    let there : slice_get c.args.buffers.now.items c.from.result ≡ Some c.in-Some.queue.now =
    read-at c.args.buffers.now.items c.from.result c.in-Some.queue.now (omega (arith, c.in-Some.ensures.variant.0 refl, c.args.buffers.now.ok.0)) c.in-Some.ensures.value in
    subst (λ (xs : List Message). IsNew xs c.args.m.number) (queue-at c.args.buffers.now.items c.from.result c.args.m.buffer c.in-Some.queue.now c.from.ensures there) c.requires.new

pub put_reserved-requires-clause-room : goal.put_reserved-requires-clause-room
put_reserved-requires-clause-room c =
    let there : slice_get c.args.buffers.now.items c.from.result ≡ Some c.in-Some.queue.now =
    read-at c.args.buffers.now.items c.from.result c.in-Some.queue.now (omega (arith, c.in-Some.ensures.variant.0 refl, c.args.buffers.now.ok.0)) c.in-Some.ensures.value in
    subst (λ n. 0 < n) (room-at c.args.buffers.now.items c.from.result c.args.m.buffer c.in-Some.queue.now c.from.ensures there) c.requires.room

pub returns-in-Some-clause-after : goal.returns-in-Some-clause-after
returns-in-Some-clause-after c =
    let there : slice_get c.args.buffers.now.items c.from.result ≡ Some c.in-Some.queue.now =
    read-at c.args.buffers.now.items c.from.result c.in-Some.queue.now (omega (arith, c.in-Some.ensures.variant.0 refl, c.args.buffers.now.ok.0)) c.in-Some.ensures.value in
    replaces c.args.buffers.now.items c.from.result c.args.m.buffer c.in-Some.queue.now c.put_reserved.new.self (with_message (queue_of c.args.buffers.now.items c.args.m.buffer) c.args.m) c.from.ensures there
    (c.put_reserved.ensures.after ∙ ap (λ (xs : List Message). with_message xs c.args.m) (sym (queue-at c.args.buffers.now.items c.from.result c.args.m.buffer c.in-Some.queue.now c.from.ensures there)))

pub returns-in-Some-clause-room : goal.returns-in-Some-clause-room
returns-in-Some-clause-room c =
    let there : slice_get c.args.buffers.now.items c.from.result ≡ Some c.in-Some.queue.now =
    read-at c.args.buffers.now.items c.from.result c.in-Some.queue.now (omega (arith, c.in-Some.ensures.variant.0 refl, c.args.buffers.now.ok.0)) c.in-Some.ensures.value in
    rooms c.args.buffers.now.items c.from.result c.in-Some.queue.now c.put_reserved.new.self 1 there c.put_reserved.ensures.room

pub returns-in-None-clause-after : goal.returns-in-None-clause-after
returns-in-None-clause-after c =
    let there : slice_get c.args.buffers.now.items c.from.result ≡ None =
    read-past c.args.buffers.now.items c.from.result (omega (arith, past-end _ c.from.result c.in-None.ensures.variant.1, c.args.buffers.now.ok.0)) in
    absurd (omega (arith, c.requires.room, room-none c.args.buffers.now.items c.from.result c.args.m.buffer c.from.ensures there))
