-- A buffer among others, and another one in its place.
use Rattle.std.proofs.Common.{◌≡◌, ◌≢◌, ◌⊎◌, ⊎_elim, ◌≤◌, ◌<◌, ◌+◌, ℕ, zero, suc, None, Some, List, [], ◌∷◌, refl, sym, subst, ap, ◌∙◌, All, map, replicate, length, slice_get, slice_set, get_or, true, false, arith}
use Rattle.std.proofs.lemmas.List.Elements.{All-head, All-tail}
use Rattle.std.proofs.lemmas.Option.{slice_get_past}
use Rattle.std.specs.FinMap.{empty}
use Rattle.ruby_value.specs.declared.message.Message.{Message}
use Rattle.ruby_value.specs.Prelude.{Roomy}
use Rattle.ctl_face.specs.Prelude.{Lasts}
use Rattle.ctl_mail.specs.Prelude.{Queues, Replaces, messages_in, queue_of, room_in, room_of}

-- what is read at a place within
pub read-at : {X : Type 0} (queues : List X) (at : ℕ) (q : X) → at < length queues → q ≡ get_or queues at q → slice_get queues at ≡ Some q
read-at [] at q within is = absurd (omega arith)
read-at (x ∷ xs) zero q within is = ap Some (sym is)
read-at (x ∷ xs) (suc at) q within is = read-at xs at q (omega arith) is

at-or-past : (n at : ℕ) → (at < n) ⊎ (n ≤ at)
at-or-past n at = grind arith

pub past-end : (n at : ℕ) → (at < n → false ≡ true) → n ≤ at
past-end n at none = ⊎_elim (λ less. absurd (cc (none less))) (λ le. le) (at-or-past n at)

pub read-past : {X : Type 0} (queues : List X) (at : ℕ) → length queues ≤ at → slice_get queues at ≡ None
read-past queues at past = slice_get_past queues at past

pub queue-at : (queues : Queues) (at buffer : ℕ) (q : Roomy (List Message)) → at ≡ buffer → slice_get queues at ≡ Some q → queue_of queues buffer ≡ q.kept
unfolding queue_of
queue-at queues at buffer q same is = ap (λ i. messages_in (slice_get queues i)) (sym same) ∙ ap messages_in is

pub room-at : (queues : Queues) (at buffer : ℕ) (q : Roomy (List Message)) → at ≡ buffer → slice_get queues at ≡ Some q → room_of queues buffer ≡ q.room
unfolding room_of
room-at queues at buffer q same is = ap (λ i. room_in (slice_get queues i)) (sym same) ∙ ap room_in is

pub queue-none : (queues : Queues) (at buffer : ℕ) → at ≡ buffer → slice_get queues at ≡ None → queue_of queues buffer ≡ []
unfolding queue_of
queue-none queues at buffer same is = ap (λ i. messages_in (slice_get queues i)) (sym same) ∙ ap messages_in is

pub room-none : (queues : Queues) (at buffer : ℕ) → at ≡ buffer → slice_get queues at ≡ None → room_of queues buffer ≡ 0
unfolding room_of
room-none queues at buffer same is = ap (λ i. room_in (slice_get queues i)) (sym same) ∙ ap room_in is

pub set-here : {X : Type 0} (queues : List X) (at : ℕ) (old new : X) → slice_get queues at ≡ Some old → slice_get (slice_set queues at new) at ≡ Some new
set-here [] at old new is = absurd (cc is)
set-here (q ∷ qs) zero old new is = refl
set-here (q ∷ qs) (suc at) old new is = set-here qs at old new is

pub set-other : {X : Type 0} (queues : List X) (at other : ℕ) (new : X) → other ≢ at → slice_get (slice_set queues at new) other ≡ slice_get queues other
set-other [] at other new apart = refl
set-other (q ∷ qs) zero zero new apart = absurd (apart refl)
set-other (q ∷ qs) zero (suc other) new apart = refl
set-other (q ∷ qs) (suc at) zero new apart = refl
set-other (q ∷ qs) (suc at) (suc other) new apart = set-other qs at other new (λ same. apart (ap suc same))

pub nat-same-or-not : (a b : ℕ) → (a ≡ b) ⊎ (a ≢ b)
nat-same-or-not a b = grind arith

pub replaces : (queues : Queues) (at buffer : ℕ) (old new : Roomy (List Message)) (messages : List Message) → at ≡ buffer → slice_get queues at ≡ Some old → new.kept ≡ messages
    → Replaces queues (slice_set queues at new) buffer messages
unfolding queue_of
replaces queues at buffer old new messages same is kept = record {
  here = queue-at (slice_set queues at new) at buffer new same (set-here queues at old new is) ∙ kept;
  others = λ other apart. ap messages_in (set-other queues at other new (λ here. apart (here ∙ same)));
}

-- the room of the others stays
pub rooms : (queues : Queues) (at : ℕ) (old new : Roomy (List Message)) (less : ℕ) → slice_get queues at ≡ Some old → old.room ≤ new.room + less
    → (buffer : ℕ) → room_of queues buffer ≤ room_of (slice_set queues at new) buffer + less
unfolding room_of
rooms queues at old new less is room buffer =
    ⊎_elim
    (λ same.
    subst (λ i. room_in (slice_get queues i) ≤ room_in (slice_get (slice_set queues at new) i) + less) (sym same)
    (rw (is, set-here queues at old new is) room))
    (λ apart. rw (set-other queues at buffer new apart) (omega arith))
    (nat-same-or-not buffer at)

pub all-empty : (queues : Queues) → All (λ (q : Roomy (List Message)). q.kept ≡ []) queues → (buffer : ℕ) → queue_of queues buffer ≡ []
unfolding queue_of
all-empty [] all buffer = refl
all-empty (q ∷ qs) all zero = All-head (λ (r : Roomy (List Message)). r.kept ≡ []) q qs all
all-empty (q ∷ qs) all (suc buffer) = all-empty qs (All-tail (λ (r : Roomy (List Message)). r.kept ≡ []) q qs all) buffer

pub all-no-lasts : (networks : List (Roomy Lasts)) → All (λ (r : Roomy Lasts). r.kept ≡ empty) networks → map (λ (r : Roomy Lasts). r.kept) networks ≡ replicate (length networks) empty
all-no-lasts [] all = refl
all-no-lasts (n ∷ ns) all =
    let first : n.kept ≡ empty = All-head (λ (r : Roomy Lasts). r.kept ≡ empty) n ns all in
    let rest : map (λ (r : Roomy Lasts). r.kept) ns ≡ replicate (length ns) empty = all-no-lasts ns (All-tail (λ (r : Roomy Lasts). r.kept ≡ empty) n ns all) in
    ap (λ (x : Lasts). x ∷ map (λ (r : Roomy Lasts). r.kept) ns) first ∙ ap (λ (xs : List Lasts). empty ∷ xs) rest

-- where there is room there is a buffer
pub within-room : (queues : Queues) (buffer : ℕ) → 0 < room_of queues buffer → buffer < length queues
unfolding room_of
within-room [] buffer room = absurd (omega arith)
within-room (q ∷ qs) zero room = omega arith
within-room (q ∷ qs) (suc buffer) room = let so : buffer < length qs = within-room qs buffer room in omega arith
