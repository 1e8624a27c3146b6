-- The order of numbers as it is kept: numbers that don't descend, each with the message that waits, or with none where it waits
-- no longer. Of slots of one number the last alone may hold a message.
use Rattle.std.specs.Prelude.{◌≡◌, ◌⊎◌, ◌<◌, ◌≤◌, ℕ, suc, true, false, Option, None, Some, List, [], ◌∷◌, IfSome, length, take, drop, slice_index_or}
use Rattle.std.specs.List.{All, AllPairs, filter_map}
use Rattle.ruby_value.specs.declared.message.MsgNo.{MsgNo}
use Rattle.ruby_value.specs.Prelude.{IsBefore, number_before, same_number}
use Rattle.stall_map.specs.declared.slots.Slot.{Slot}
use Rattle.stall_map.specs.declared.stalled.Stalled.{Stalled}

-- the messages that wait, in the order of their numbers
abbrev pub waiting_of : List Slot → List Stalled
waiting_of slots = filter_map (λ (s : Slot). s.held) slots

-- the later slot's number is greater, or the earlier one is empty
abbrev pub IsFollowedBy : Slot → Slot → Type 0
IsFollowedBy a b = IsBefore a.number b.number ⊎ ((a.number ≡ b.number) × (a.held ≡ None))

-- a message stands under its number
abbrev pub IsNamed : Slot → Type 0
IsNamed s = IfSome s.held (λ h. h.message.number ≡ s.number)

pub record IsOrder (slots : List Slot) : Type 0 where
  pub rises : AllPairs IsFollowedBy slots
  pub named : All IsNamed slots

-- the first slot is empty
abbrev pub IsFirstEmpty : List Slot → Type 0
IsFirstEmpty [] = ⊥
IsFirstEmpty (s ∷ slots) = s.held ≡ None

-- a place in a list whose items have numbers, up to which none is above the number, and from which on each is
pub record IsSplit {X : Type 0} (number_of : X → MsgNo) (number : MsgNo) (items : List X) (at : ℕ) : Type 0 where
  pub within : at ≤ length items
  pub below : (k : ℕ) (d : X) → k < at → number_before number (number_of (slice_index_or items k d)) ≡ false
  pub above : (k : ℕ) (d : X) → at ≤ k → k < length items → number_before number (number_of (slice_index_or items k d)) ≡ true

-- none of the messages has the number
abbrev pub HasNone : MsgNo → List Stalled → Type 0
HasNone number waiting = All (λ s. same_number s.message.number number ≡ false) waiting

-- the slot of the number, the only one that may hold its message
pub record IsSlotAt (slots : List Slot) (number : MsgNo) (at : ℕ) : Type 0 where
  pub within : at < length slots
  pub here : (d : Slot) → (slice_index_or slots at d).number ≡ number
  pub before : HasNone number (waiting_of (take at slots))
  pub after : HasNone number (waiting_of (drop (suc at) slots))

abbrev pub IsSlotOf : List Slot → MsgNo → Option ℕ → Type 0
IsSlotOf slots number None = HasNone number (waiting_of slots)
IsSlotOf slots number (Some at) = IsSlotAt slots number at

-- the same messages wait in two orders
pub record SameWaiting (old new : List Slot) : Type 0 where
  pub same : waiting_of new ≡ waiting_of old
  pub order : IsOrder new
