use Rattle.std.proofs.Common.{◌≡◌, ◌⊎◌, ◌≤◌, ◌<◌, ◌+◌, ◌∙◌, ℕ, List, Some, slice_get, slice_set, refl, sym, ⊎_elim, arith}
use Rattle.std.proofs.Math.ListN.{length-set}
use Rattle.ruby_value.specs.declared.message.Message.{Message}
use Rattle.ruby_value.specs.Prelude.{Roomy}
use Rattle.ctl_mail.specs.Prelude.{Queues, queue_of, room_of}
use Rattle.ctl_mail.proofs.Edits.{queue-at, read-at, replaces, room-at, rooms, set-here}
use Rattle.ctl_mail.proofs.Pops.{replaced-same}
use Rattle.ctl_mail.proofs.queues.reserve.Goals as goal

module _ (first queues : Queues) (at : ℕ) (old new : Roomy (List Message)) (there : slice_get queues at ≡ Some old) where
  still : new.kept ≡ old.kept → ((buffer : ℕ) → queue_of queues buffer ≡ queue_of first buffer) → (buffer : ℕ) → queue_of (slice_set queues at new) buffer ≡ queue_of first buffer
  still same before buffer =
      replaced-same queues (slice_set queues at new) at (replaces queues at at old new (queue_of queues at) refl there (same ∙ sym (queue-at queues at at old refl there))) buffer
      ∙ before buffer

  roomier : old.room ≤ new.room → (buffer : ℕ) → room_of queues buffer ≤ room_of (slice_set queues at new) buffer
  roomier more buffer =
      let so : room_of queues buffer ≤ room_of (slice_set queues at new) buffer + 0 = rooms queues at old new 0 there (omega arith) buffer in
      omega arith

  no_less : old.room ≤ new.room → ((buffer : ℕ) → room_of first buffer ≤ room_of queues buffer) → (buffer : ℕ) → room_of first buffer ≤ room_of (slice_set queues at new) buffer
  no_less more before buffer =
      let one : room_of first buffer ≤ room_of queues buffer = before buffer in
      let two : room_of queues buffer ≤ room_of (slice_set queues at new) buffer = roomier more buffer in
      omega arith

  below-or-at : (buffer : ℕ) → buffer < at + 1 → (buffer < at) ⊎ (at ≡ buffer)
  below-or-at buffer lt = grind (arith, lt)

  made : (more : ℕ) → old.room ≤ new.room → more ≤ new.room → ((buffer : ℕ) → buffer < at → more ≤ room_of queues buffer) → (buffer : ℕ) → buffer < at + 1 → more ≤ room_of (slice_set queues at new) buffer
  made more no_less here before buffer lt =
      ⊎_elim
      (λ below.
      let one : more ≤ room_of queues buffer = before buffer below in
      let two : room_of queues buffer ≤ room_of (slice_set queues at new) buffer = roomier no_less buffer in
      omega arith)
      (λ same. rw (room-at (slice_set queues at new) at buffer new same (set-here queues at old new there)) here)
      (below-or-at buffer lt)

pub returns-in_err-reserve-clause-same : goal.returns-in_err-reserve-clause-same
returns-in_err-reserve-clause-same c =
    let items = c.loop-i.buffers.items in
    let there : slice_get items c.loop-i.i ≡ Some c.index_mut.result.now =
    read-at items c.loop-i.i c.index_mut.result.now (omega (arith, c.loop-i-test.true, c.loop-i.invariant.count, c.len-i-end.ensures, c.args.buffers.now.ok.0)) c.index_mut.ensures.value in
    still c.args.buffers.now.items items c.loop-i.i c.index_mut.result.now c.reserve.new.self there c.reserve.ensures.same c.loop-i.invariant.same

pub returns-in_err-reserve-clause-room : goal.returns-in_err-reserve-clause-room
returns-in_err-reserve-clause-room c =
    let items = c.loop-i.buffers.items in
    let there : slice_get items c.loop-i.i ≡ Some c.index_mut.result.now =
    read-at items c.loop-i.i c.index_mut.result.now (omega (arith, c.loop-i-test.true, c.loop-i.invariant.count, c.len-i-end.ensures, c.args.buffers.now.ok.0)) c.index_mut.ensures.value in
    no_less c.args.buffers.now.items items c.loop-i.i c.index_mut.result.now c.reserve.new.self there c.reserve.ensures.no_less c.loop-i.invariant.kept

pub loop-i-preserved : goal.loop-i-preserved
loop-i-preserved c =
    let first = c.args.buffers.now.items in
    let items = c.loop-i.buffers.items in
    let there : slice_get items c.loop-i.i ≡ Some c.index_mut.result.now =
    read-at items c.loop-i.i c.index_mut.result.now (omega (arith, c.loop-i-test.true, c.loop-i.invariant.count, c.len-i-end.ensures, c.args.buffers.now.ok.0)) c.index_mut.ensures.value in
    record {
      same = still first items c.loop-i.i c.index_mut.result.now c.reserve.new.self there c.reserve.ensures.same c.loop-i.invariant.same;
      kept = no_less first items c.loop-i.i c.index_mut.result.now c.reserve.new.self there c.reserve.ensures.no_less c.loop-i.invariant.kept;
      count = simp length-set c.loop-i.invariant.count;
      made = made first items c.loop-i.i c.index_mut.result.now c.reserve.new.self there c.args.more c.reserve.ensures.no_less c.in_ok-reserve.ensures.ok c.loop-i.invariant.made;
    }
