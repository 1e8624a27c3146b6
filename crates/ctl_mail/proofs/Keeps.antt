-- A mail whose containers have lost no room has room for all that it had room for.
use Rattle.std.proofs.Common.{◌≡◌, ◌≤◌, ◌<◌, ◌+◌, ℕ, length, subst, arith}
use Rattle.std.proofs.lemmas.List.Elements.{All-weaker}
use Rattle.ctl_mail.specs.declared.store.MailStore.{MailStore}
use Rattle.ctl_mail.specs.Prelude.{buffer_count, room_of, HasPlaces, LosesPlaces, mark_room}
use Rattle.ctl_mail.specs.Room.{KeepsRoom}
use Rattle.ctl_mail.proofs.Places.{place-kept}

module _ (old new : MailStore) (marks : mark_room old ≤ mark_room new) (waits : old.stalls.room ≤ new.stalls.room) (same : length new.stalls.kept ≡ length old.stalls.kept)
    (count : buffer_count new ≡ buffer_count old) (places : LosesPlaces old new 0) where
  in-buffer : (buffer : ℕ) → room_of old.buffers.items buffer ≤ room_of new.buffers.items buffer
  in-buffer buffer =
      let so : length new.stalls.kept + room_of old.buffers.items buffer ≤ length old.stalls.kept + room_of new.buffers.items buffer + 0 = places.buffers buffer in
      omega arith

  there : (buffer : ℕ) → buffer < length new.buffers.items → buffer < length old.buffers.items
  there buffer within = subst (λ (n : ℕ). buffer < n) count within

  pub keeps-room : KeepsRoom old new
  keeps-room = record {
    marks = marks;
    parcels = λ n room. record {
      buffers = λ buffer within.
          let before : n ≤ room_of old.buffers.items buffer = room.buffers buffer (there buffer within) in
          let still = in-buffer buffer in
          omega arith;
      credits = omega (arith, room.credits, places.credits);
      marks = (let before : n < mark_room old = room.marks in omega arith);
    };
    changes = λ told room. record {
      marks = (let before : length told.log < mark_room old = room.marks in omega arith);
      waits = (let before = room.waits in omega arith);
      places = All-weaker (HasPlaces old (length told.log)) (HasPlaces new (length told.log)) (place-kept old new (length told.log) places) told.log room.places;
      to_wake = λ some buffer within.
          let before : length old.stalls.kept + length told.log ≤ room_of old.buffers.items buffer = room.to_wake some buffer (there buffer within) in
          let still = in-buffer buffer in
          omega arith;
    };
  }

-- so it is with more than one step
pub keeps-then : (old middle new : MailStore) → KeepsRoom old middle → KeepsRoom middle new → KeepsRoom old new
keeps-then old middle new first second = record {
  marks = omega (arith, first.marks, second.marks);
  parcels = λ n room. second.parcels n (first.parcels n room);
  changes = λ told room. second.changes told (first.changes told room);
}
