use Rattle.std.proofs.Common.{◌≡◌, ◌<◌, ◌≤◌, ◌+◌, ◌∙◌, ℕ, List, Result, Ok, Err, None, Some, IfNone, IfSome, IfOk, OnErr, slice_get, slice_set, refl, sym, ap, arith}
use Rattle.std.specs.Result.{result_ok}
use Rattle.ruby_value.specs.declared.message.Message.{Message}
use Rattle.ruby_value.specs.Prelude.{Roomy}
use Rattle.msg_buffer.specs.Prelude.{front, without_message}
use Rattle.ctl_mail.specs.Prelude.{Queues, Replaces, queue_of, room_of}
use Rattle.ctl_mail.proofs.Edits.{past-end, queue-at, queue-none, read-at, read-past, replaces, room-at, rooms, set-here}
use Rattle.ctl_mail.proofs.queues.pop.Goals as goal

module _ {E : Type 0} (messages : List Message) (now : ℕ) where
  answered : (r : Result Message E) → IfOk r (λ m. front messages now ≡ Some m) → OnErr r (front messages now ≡ None) → result_ok r ≡ front messages now
  answered (Ok m) value none = sym value
  answered (Err e) value none = sym none

module _ {E : Type 0} (queues : Queues) (at buffer : ℕ) (old new : Roomy (List Message)) (same : at ≡ buffer) (there : slice_get queues at ≡ Some old) where
  went : (r : Result Message E) → IfOk r (λ m. new.kept ≡ without_message old.kept m.number)
      → IfSome (result_ok r) (λ m. Replaces queues (slice_set queues at new) buffer (without_message (queue_of queues buffer) m.number))
  went (Ok m) is =
      replaces queues at buffer old new (without_message (queue_of queues buffer) m.number) same there
      (is ∙ ap (λ (xs : List Message). without_message xs m.number) (sym (queue-at queues at buffer old same there)))
  went (Err e) is = tt

  stayed : (r : Result Message E) → OnErr r (new.kept ≡ old.kept) → IfNone (result_ok r) (Replaces queues (slice_set queues at new) buffer (queue_of queues buffer))
  stayed (Ok m) is = tt
  stayed (Err e) is = replaces queues at buffer old new (queue_of queues buffer) same there (is ∙ sym (queue-at queues at buffer old same there))

module _ {E : Type 0} (queues : Queues) (at buffer : ℕ) (old new : Roomy (List Message)) (same : at ≡ buffer) (there : slice_get queues at ≡ Some old) where
  placed : (r : Result Message E) → IfOk r (λ m. new.room ≡ old.room + 1) → IfSome (result_ok r) (λ m. 0 < room_of (slice_set queues at new) buffer)
  placed (Ok m) is = rw (room-at (slice_set queues at new) at buffer new same (set-here queues at old new there)) (omega arith)
  placed (Err e) is = tt

pub returns-in-Some-clause-value : goal.returns-in-Some-clause-value
returns-in-Some-clause-value c =
    let there : slice_get c.args.buffers.now.items c.from.result ≡ Some c.in-Some.queue.now =
    read-at c.args.buffers.now.items c.from.result c.in-Some.queue.now (omega (arith, c.in-Some.ensures.variant.0 refl, c.args.buffers.now.ok.0)) c.in-Some.ensures.value in
    c.ok.ensures.value ∙ (answered c.in-Some.queue.now.kept c.args.now c.pop.result c.pop.ensures.value c.pop.ensures.not_ready
    ∙ ap (λ (xs : List Message). front xs c.args.now) (sym (queue-at c.args.buffers.now.items c.from.result c.args.buffer c.in-Some.queue.now c.from.ensures there)))

pub returns-in-Some-clause-taken : goal.returns-in-Some-clause-taken
returns-in-Some-clause-taken c =
    let there : slice_get c.args.buffers.now.items c.from.result ≡ Some c.in-Some.queue.now =
    read-at c.args.buffers.now.items c.from.result c.in-Some.queue.now (omega (arith, c.in-Some.ensures.variant.0 refl, c.args.buffers.now.ok.0)) c.in-Some.ensures.value in
    rw c.ok.ensures.value (went c.args.buffers.now.items c.from.result c.args.buffer c.in-Some.queue.now c.pop.new.self c.from.ensures there c.pop.result c.pop.ensures.after)

pub returns-in-Some-clause-none : goal.returns-in-Some-clause-none
returns-in-Some-clause-none c =
    let there : slice_get c.args.buffers.now.items c.from.result ≡ Some c.in-Some.queue.now =
    read-at c.args.buffers.now.items c.from.result c.in-Some.queue.now (omega (arith, c.in-Some.ensures.variant.0 refl, c.args.buffers.now.ok.0)) c.in-Some.ensures.value in
    rw c.ok.ensures.value (stayed c.args.buffers.now.items c.from.result c.args.buffer c.in-Some.queue.now c.pop.new.self c.from.ensures there c.pop.result c.pop.ensures.refused)

pub returns-in-Some-clause-room : goal.returns-in-Some-clause-room
returns-in-Some-clause-room c =
    let there : slice_get c.args.buffers.now.items c.from.result ≡ Some c.in-Some.queue.now =
    read-at c.args.buffers.now.items c.from.result c.in-Some.queue.now (omega (arith, c.in-Some.ensures.variant.0 refl, c.args.buffers.now.ok.0)) c.in-Some.ensures.value in
    λ buffer.
    let so : room_of c.args.buffers.now.items buffer ≤ room_of (slice_set c.args.buffers.now.items c.from.result c.pop.new.self) buffer + 0 =
    rooms c.args.buffers.now.items c.from.result c.in-Some.queue.now c.pop.new.self 0 there (omega (arith, c.pop.ensures.room)) buffer in
    omega arith

pub returns-in-None-clause-value : goal.returns-in-None-clause-value
returns-in-None-clause-value c =
    let there : slice_get c.args.buffers.now.items c.from.result ≡ None =
    read-past c.args.buffers.now.items c.from.result (omega (arith, past-end _ c.from.result c.in-None.ensures.variant.1, c.args.buffers.now.ok.0)) in
    ap (λ (xs : List Message). front xs c.args.now) (sym (queue-none c.args.buffers.now.items c.from.result c.args.buffer c.from.ensures there))

pub returns-in-Some-clause-place : goal.returns-in-Some-clause-place
returns-in-Some-clause-place c =
    let queues = c.args.buffers.now.items in
    let there : slice_get queues c.from.result ≡ Some c.in-Some.queue.now =
    read-at queues c.from.result c.in-Some.queue.now (omega (arith, c.in-Some.ensures.variant.0 refl, c.args.buffers.now.ok.0)) c.in-Some.ensures.value in
    rw c.ok.ensures.value (placed queues c.from.result c.args.buffer c.in-Some.queue.now c.pop.new.self c.from.ensures there c.pop.result c.pop.ensures.more_room)
