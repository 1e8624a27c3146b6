-- The room that is left after an act.
use Rattle.std.proofs.Common.{◌≡◌, ◌<◌, ◌≤◌, ◌+◌, ℕ, Bool, true, false, cond, List, [], ◌∷◌, count_by, filter, length, subst, arith}
use Rattle.std.proofs.lemmas.List.Sums.{length-filter}
use Rattle.ctl_mail.specs.declared.act.MailAct.{MailAct}
use Rattle.ctl_mail.specs.declared.store.MailStore.{MailStore}
use Rattle.ctl_mail.specs.Prelude.{buffer_count, room_of, HasPlaces, HasPlacesToWake, HasRoomToMake, LosesPlaces, is_stall, is_wake, mark_room}
use Rattle.ctl_mail.proofs.Places.{places-first, places-rest}

pub count-cons : {X : Type 0} (p : X → Bool) (x : X) (xs : List X) → count_by p (x ∷ xs) ≡ count_by p (x ∷ []) + count_by p xs
count-cons p x xs =
    let all : length (filter p (x ∷ xs)) ≡ count_by p (x ∷ xs) = length-filter p (x ∷ xs) in
    let one : length (filter p (x ∷ [])) ≡ count_by p (x ∷ []) = length-filter p (x ∷ []) in
    let rest : length (filter p xs) ≡ count_by p xs = length-filter p xs in
    let so : length (filter p (x ∷ xs)) ≡ length (filter p (x ∷ [])) + length (filter p xs) = by (p x) in
    omega arith
  where
    by : (b : Bool) → length (cond b (x ∷ filter p xs) (filter p xs)) ≡ length (cond b (x ∷ []) []) + length (filter p xs)
    by true = omega arith
    by false = omega arith

count-first : {X : Type 0} (p : X → Bool) (x : X) (xs : List X) → p x ≡ true → 0 < count_by p (x ∷ xs)
count-first p x xs is =
    let all : length (filter p (x ∷ xs)) ≡ count_by p (x ∷ xs) = length-filter p (x ∷ xs) in
    let some : 0 < length (filter p (x ∷ xs)) = by (p x) is in
    omega arith
  where
    by : (b : Bool) → b ≡ true → 0 < length (cond b (x ∷ filter p xs) (filter p xs))
    by true same = omega arith
    by false same = absurd (cc same)

module _ (old : MailStore) (act : MailAct) (rest log : List MailAct) (is : log ≡ act ∷ rest) (room : HasRoomToMake old log) where
  here : HasRoomToMake old (act ∷ rest)
  here = subst (HasRoomToMake old) is room

  pub room-waits : is_stall act ≡ true → 0 < old.stalls.room
  room-waits stalls =
      let some : 0 < count_by is_stall (act ∷ rest) = count-first is_stall act rest stalls in
      let enough : count_by is_stall (act ∷ rest) ≤ old.stalls.room = here.waits in
      omega arith

  pub room-places : HasPlaces old 1 act
  room-places = places-first old act rest here.places

  pub room-to-wake : is_wake act ≡ true → HasPlacesToWake old 0
  room-to-wake wakes buffer within =
      let places : length old.stalls.kept + length (act ∷ rest) ≤ room_of old.buffers.items buffer = here.to_wake (count-first is_wake act rest wakes) buffer within in
      omega arith

  pub room-after : (new : MailStore) → mark_room old ≤ mark_room new + 1 → old.stalls.room ≤ new.stalls.room + count_by is_stall (act ∷ []) → LosesPlaces old new 1
      → buffer_count new ≡ buffer_count old → HasRoomToMake new rest
  room-after new marks waits places buffers =
      let all : count_by is_stall (act ∷ rest) ≡ count_by is_stall (act ∷ []) + count_by is_stall rest = count-cons is_stall act rest in
      let wakes : count_by is_wake (act ∷ rest) ≡ count_by is_wake (act ∷ []) + count_by is_wake rest = count-cons is_wake act rest in
      let many : length (act ∷ rest) < mark_room old = here.marks in
      let enough : count_by is_stall (act ∷ rest) ≤ old.stalls.room = here.waits in
      record {
        marks = omega arith;
        waits = omega arith;
        places = places-rest old new act rest places here.places;
        to_wake = λ some buffer within.
            let there : buffer < length old.buffers.items = subst (λ (n : ℕ). buffer < n) buffers within in
            let before : length old.stalls.kept + length (act ∷ rest) ≤ room_of old.buffers.items buffer = here.to_wake (omega arith) buffer there in
            let one : length new.stalls.kept + room_of old.buffers.items buffer ≤ length old.stalls.kept + room_of new.buffers.items buffer + 1 = places.buffers buffer in
            omega arith;
      }
