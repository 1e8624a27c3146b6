-- The room of a mail after an act, and the last arrivals of a network among the others.
use Rattle.std.proofs.Common.{◌≡◌, ◌⊎◌, ◌≤◌, ◌<◌, ◌+◌, ℕ, zero, suc, Option, None, Some, List, [], ◌∷◌, Result, Ok, Err, IfSome, OnOk, refl, sym, subst, ap, ◌∙◌, ⊎_elim, length, get_or, slice_get, slice_set, arith}
use Rattle.std.specs.FinMap as finite
use Rattle.std.specs.List.{All}
use Rattle.std.proofs.lemmas.List.{get_or_default}
use Rattle.std.proofs.lemmas.List.Elements.{All-head, All-tail}
use Rattle.ruby_value.specs.Prelude.{Roomy}
use Rattle.ctl_face.specs.Prelude.{Lasts, lasts_on, with_last}
use Rattle.ctl_mail.specs.declared.act.MailAct.{MailAct}
use Rattle.ctl_mail.specs.declared.act.MailAct.TheVariants.{Arrive, Credit, Lend, LocalLast, NetworkLast}
use Rattle.ctl_mail.specs.declared.store.MailStore.{MailStore}
use Rattle.ctl_mail.specs.Prelude.{lasts_in, room_of, HasLastRoom, HasPlaces, LosesPlaces}
use Rattle.ctl_mail.proofs.Edits.{nat-same-or-not, set-here, set-other}

pub ok-then : {E P Q : Type 0} (r : Result (Unit {0}) E) → (P → Q) → OnOk r P → OnOk r Q
ok-then (Ok done) then is = then is
ok-then (Err e) then is = tt

abbrev RoomIn : Option (Roomy Lasts) → ℕ → Type 0
RoomIn o n = IfSome o (λ (lasts : Roomy Lasts). n ≤ lasts.room)

no-more-in : (o : Option (Roomy Lasts)) (n m : ℕ) → n ≤ m → RoomIn o m → RoomIn o n
no-more-in None n m le has = tt
no-more-in (Some lasts) n m le has = omega arith

pub no-more : (networks : List (Roomy Lasts)) (network n m : ℕ) → n ≤ m → HasLastRoom networks network m → HasLastRoom networks network n
unfolding HasLastRoom
no-more networks network n m le has = no-more-in (slice_get networks network) n m le has

pub loses-more : (old new : MailStore) → LosesPlaces old new 0 → LosesPlaces old new 1
loses-more old new is = record {
  buffers = λ buffer. (let so : length new.stalls.kept + room_of old.buffers.items buffer ≤ length old.stalls.kept + room_of new.buffers.items buffer + 0 = is.buffers buffer in omega arith);
  networks = λ network n has. is.networks network n (no-more old.network_last.items network (n + 0) (n + 1) (omega arith) has);
  locals = omega (arith, is.locals);
  lent = omega (arith, is.lent);
  credits = omega (arith, is.credits);
}

pub loses-then : (old middle new : MailStore) → LosesPlaces old middle 0 → LosesPlaces middle new 1 → LosesPlaces old new 1
loses-then old middle new first second = record {
  buffers = λ buffer.
      let one : length middle.stalls.kept + room_of old.buffers.items buffer ≤ length old.stalls.kept + room_of middle.buffers.items buffer + 0 = first.buffers buffer in
      let two : length new.stalls.kept + room_of middle.buffers.items buffer ≤ length middle.stalls.kept + room_of new.buffers.items buffer + 1 = second.buffers buffer in
      omega arith;
  networks = λ network n has.
      second.networks network n
      (first.networks network (n + 1) (no-more old.network_last.items network ((n + 1) + 0) (n + 1) (omega arith) has));
  locals = omega (arith, first.locals, second.locals);
  lent = omega (arith, first.lent, second.lent);
  credits = omega (arith, first.credits, second.credits);
}

pub loses-none : (old middle new : MailStore) → LosesPlaces old middle 0 → LosesPlaces middle new 0 → LosesPlaces old new 0
loses-none old middle new first second = record {
  buffers = λ buffer.
      let one : length middle.stalls.kept + room_of old.buffers.items buffer ≤ length old.stalls.kept + room_of middle.buffers.items buffer + 0 = first.buffers buffer in
      let two : length new.stalls.kept + room_of middle.buffers.items buffer ≤ length middle.stalls.kept + room_of new.buffers.items buffer + 0 = second.buffers buffer in
      omega arith;
  networks = λ network n has. second.networks network n (no-more middle.network_last.items network (n + 0) n (omega arith) (first.networks network n has));
  locals = omega (arith, first.locals, second.locals);
  lent = omega (arith, first.lent, second.lent);
  credits = omega (arith, first.credits, second.credits);
}

pub place-left : (old new : MailStore) (n : ℕ) → LosesPlaces old new 1 → (act : MailAct) → HasPlaces old (n + 1) act → HasPlaces new n act
place-left old new n is (Arrive m) has =
    let so : length new.stalls.kept + room_of old.buffers.items m.buffer ≤ length old.stalls.kept + room_of new.buffers.items m.buffer + 1 = is.buffers m.buffer in
    omega arith
place-left old new n is (NetworkLast network receiver arrival) has = is.networks network n has
place-left old new n is (LocalLast buffer arrival) has = omega (arith, is.locals)
place-left old new n is (Lend receiver buffer) has = omega (arith, is.lent)
place-left old new n is (Credit c) has = omega (arith, is.credits)
place-left old new n is _ has = tt

pub place-kept : (old new : MailStore) (n : ℕ) → LosesPlaces old new 0 → (act : MailAct) → HasPlaces old n act → HasPlaces new n act
place-kept old new n is (Arrive m) has =
    let so : length new.stalls.kept + room_of old.buffers.items m.buffer ≤ length old.stalls.kept + room_of new.buffers.items m.buffer + 0 = is.buffers m.buffer in
    omega arith
place-kept old new n is (NetworkLast network receiver arrival) has =
    is.networks network n (no-more old.network_last.items network (n + 0) n (omega arith) has)
place-kept old new n is (LocalLast buffer arrival) has = omega (arith, is.locals)
place-kept old new n is (Lend receiver buffer) has = omega (arith, is.lent)
place-kept old new n is (Credit c) has = omega (arith, is.credits)
place-kept old new n is _ has = tt

-- the last arrivals of one network
pub room-there : (networks : List (Roomy Lasts)) (at network n : ℕ) (lasts : Roomy Lasts) → at ≡ network → slice_get networks at ≡ Some lasts → HasLastRoom networks network n → n ≤ lasts.room
unfolding HasLastRoom
room-there networks at network n lasts same there has =
    subst (λ (o : Option (Roomy Lasts)). RoomIn o n) there (subst (λ k. RoomIn (slice_get networks k) n) (sym same) has)

pub has-room-there : (networks : List (Roomy Lasts)) (at network n : ℕ) (lasts : Roomy Lasts) → at ≡ network → slice_get networks at ≡ Some lasts → n ≤ lasts.room → HasLastRoom networks network n
unfolding HasLastRoom
has-room-there networks at network n lasts same there room =
    subst (λ k. RoomIn (slice_get networks k) n) same (subst (λ (o : Option (Roomy Lasts)). RoomIn o n) (sym there) room)

pub has-room-nowhere : (networks : List (Roomy Lasts)) (at network n : ℕ) → at ≡ network → slice_get networks at ≡ None → HasLastRoom networks network n
unfolding HasLastRoom
has-room-nowhere networks at network n same none =
    subst (λ k. RoomIn (slice_get networks k) n) same (subst (λ (o : Option (Roomy Lasts)). RoomIn o n) (sym none) tt)

pub room-after : (networks : List (Roomy Lasts)) (at less : ℕ) (old new : Roomy Lasts) → slice_get networks at ≡ Some old → old.room ≤ new.room + less
    → (other n : ℕ) → HasLastRoom networks other (n + less) → HasLastRoom (slice_set networks at new) other n
unfolding HasLastRoom
room-after networks at less old new there room other n has =
    ⊎_elim
    (λ same.
    subst (λ k. RoomIn (slice_get (slice_set networks at new) k) n) (sym same)
    (subst (λ (o : Option (Roomy Lasts)). RoomIn o n) (sym (set-here networks at old new there))
    (let so : n + less ≤ old.room = subst (λ (o : Option (Roomy Lasts)). RoomIn o (n + less)) there (subst (λ k. RoomIn (slice_get networks k) (n + less)) same has) in omega arith)))
    (λ apart.
    subst (λ (o : Option (Roomy Lasts)). RoomIn o n) (sym (set-other networks at other new apart))
    (no-more-in (slice_get networks other) n (n + less) (omega arith) has))
    (nat-same-or-not other at)

pub lasts-at : (networks : List (Roomy Lasts)) (at : ℕ) (lasts : Roomy Lasts) → slice_get networks at ≡ Some lasts → lasts_on (lasts_in networks) at ≡ lasts.kept
lasts-at [] at lasts there = absurd (cc there)
lasts-at (l ∷ networks) zero lasts there = let is : l ≡ lasts = cc there in ap (λ (x : Roomy Lasts). x.kept) is
lasts-at (l ∷ networks) (suc at) lasts there = lasts-at networks at lasts there

pub within-lasts : (networks : List (Roomy Lasts)) (at : ℕ) (lasts : Roomy Lasts) → slice_get networks at ≡ Some lasts → at < length (lasts_in networks)
within-lasts [] at lasts there = absurd (cc there)
within-lasts (l ∷ networks) zero lasts there = omega arith
within-lasts (l ∷ networks) (suc at) lasts there = let so : at < length (lasts_in networks) = within-lasts networks at lasts there in omega arith

pub past-lasts : (networks : List (Roomy Lasts)) (at : ℕ) → slice_get networks at ≡ None → length (lasts_in networks) ≤ at
past-lasts [] at none = omega arith
past-lasts (l ∷ networks) zero none = absurd (cc none)
past-lasts (l ∷ networks) (suc at) none = let so : length (lasts_in networks) ≤ at = past-lasts networks at none in omega arith

set-mapped : (networks : List (Roomy Lasts)) (at : ℕ) (new : Roomy Lasts) → lasts_in (slice_set networks at new) ≡ slice_set (lasts_in networks) at new.kept
set-mapped [] at new = refl
set-mapped (l ∷ networks) zero new = refl
set-mapped (l ∷ networks) (suc at) new = ap (λ (xs : List Lasts). l.kept ∷ xs) (set-mapped networks at new)

set-nowhere : (networks : List (Roomy Lasts)) (at : ℕ) (w : Lasts) → slice_get networks at ≡ None → slice_set (lasts_in networks) at w ≡ lasts_in networks
set-nowhere [] at w none = refl
set-nowhere (l ∷ networks) zero w none = absurd (cc none)
set-nowhere (l ∷ networks) (suc at) w none = ap (λ (xs : List Lasts). l.kept ∷ xs) (set-nowhere networks at w none)

pub written : (networks : List (Roomy Lasts)) (at network receiver arrival : ℕ) (old new : Roomy Lasts) → at ≡ network → slice_get networks at ≡ Some old → new.kept ≡ finite.insert old.kept receiver arrival
    → lasts_in (slice_set networks at new) ≡ with_last (lasts_in networks) network receiver arrival
written networks at network receiver arrival old new same there is =
    set-mapped networks at new
    ∙ (ap (λ (w : Lasts). slice_set (lasts_in networks) at w) (is ∙ ap (λ (l : Lasts). finite.insert l receiver arrival) (sym (lasts-at networks at old there)))
    ∙ ap (λ k. with_last (lasts_in networks) k receiver arrival) same)

pub not-written : (networks : List (Roomy Lasts)) (at network receiver arrival : ℕ) → at ≡ network → slice_get networks at ≡ None
    → lasts_in networks ≡ with_last (lasts_in networks) network receiver arrival
not-written networks at network receiver arrival same none =
    sym (set-nowhere networks at (finite.insert (lasts_on (lasts_in networks) at) receiver arrival) none)
    ∙ ap (λ k. with_last (lasts_in networks) k receiver arrival) same

pub same-lasts : (networks : List (Roomy Lasts)) (at : ℕ) (old new : Roomy Lasts) → slice_get networks at ≡ Some old → new.kept ≡ old.kept → lasts_in (slice_set networks at new) ≡ lasts_in networks
same-lasts [] at old new there is = refl
same-lasts (l ∷ networks) zero old new there is =
    let first : l ≡ old = cc there in
    ap (λ (x : Lasts). x ∷ lasts_in networks) (is ∙ sym (ap (λ (x : Roomy Lasts). x.kept) first))
same-lasts (l ∷ networks) (suc at) old new there is = ap (λ (xs : List Lasts). l.kept ∷ xs) (same-lasts networks at old new there is)

pub place-fewer : (store : MailStore) (n m : ℕ) → n ≤ m → (act : MailAct) → HasPlaces store m act → HasPlaces store n act
place-fewer store n m le (Arrive x) has = omega arith
place-fewer store n m le (NetworkLast network receiver arrival) has = no-more store.network_last.items network n m le has
place-fewer store n m le (LocalLast buffer arrival) has = omega arith
place-fewer store n m le (Lend receiver buffer) has = omega arith
place-fewer store n m le (Credit c) has = omega arith
place-fewer store n m le _ has = tt

-- after the first act there is room for the others
pub places-first : (store : MailStore) (act : MailAct) (rest : List MailAct) → All (HasPlaces store (length (act ∷ rest))) (act ∷ rest) → HasPlaces store 1 act
places-first store act rest all = place-fewer store 1 (length (act ∷ rest)) (omega arith) act (All-head (HasPlaces store (length (act ∷ rest))) act rest all)

pub places-rest : (old new : MailStore) (act : MailAct) (rest : List MailAct) → LosesPlaces old new 1 → All (HasPlaces old (length (act ∷ rest))) (act ∷ rest) → All (HasPlaces new (length rest)) rest
places-rest old new act rest loses all k d within =
    place-left old new (length rest) loses (get_or rest k d)
    (place-fewer old (length rest + 1) (length (act ∷ rest)) (omega arith) (get_or rest k d)
    (All-tail (HasPlaces old (length (act ∷ rest))) act rest all k d within))

-- one place more is made
pub places-more : (old new : MailStore) (log : List MailAct) (n i : ℕ) (act : MailAct) → LosesPlaces old new 0 → HasPlaces new n act → i < length log → act ≡ get_or log i act
    → ((k : ℕ) (d : MailAct) → k < i → HasPlaces old n (get_or log k d)) → (k : ℕ) (d : MailAct) → k < i + 1 → HasPlaces new n (get_or log k d)
places-more old new log n i act loses made within is before k d lt =
    ⊎_elim
    (λ below. place-kept old new n loses (get_or log k d) (before k d below))
    (λ same.
    subst (λ j. HasPlaces new n (get_or log j d)) same
    (subst (HasPlaces new n) (is ∙ get_or_default log i act d within) made))
    (below-or-at k lt)
  where
    below-or-at : (k : ℕ) → k < i + 1 → (k < i) ⊎ (i ≡ k)
    below-or-at k lt = grind (arith, lt)
