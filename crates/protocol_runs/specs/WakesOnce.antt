-- Each due controller wakes once in each cycle. A cycle is the part of a history between the opening or a turn and the
-- next turn. In it each controller that must wake at that cycle gives its wake-up's end exactly once, and no other
-- controller does. A controller that was released goes on with the same wake-up. This rule is this project's own.
use Rattle.std.specs.Prelude.{◌≡◌, ℕ, Bool, true, false, Option, None, Some, List, [], ◌∷◌, ◌++◌, ◌==◌, not, IsTrue, slice_get, count_by, if◌then◌else◌}
use Rattle.std.specs.List.{list_all}
use Rattle.run_journal.specs.declared.entry.Entry.{Entry}
use Rattle.run_journal.specs.declared.event.Event.{Event}
use Rattle.run_journal.specs.declared.event.Event.TheVariants.{Take, Fire, Done, Release, Turn}
use Rattle.protocol_runs.specs.RunRules.{Rules}
use Rattle.protocol_runs.specs.World.{Place, World, must_wake}
use Rattle.protocol_runs.specs.Run.{IsRun}

abbrev pub is_turn : Event → Bool
is_turn (Take worker c) = false
is_turn (Fire worker c) = false
is_turn (Done worker c) = false
is_turn (Release worker c) = false
is_turn (Turn worker) = true

-- the event ends a wake-up of this controller
abbrev pub is_done_of : ℕ → Event → Bool
is_done_of c (Take worker other) = false
is_done_of c (Fire worker other) = false
is_done_of c (Done worker other) = other == c
is_done_of c (Release worker other) = false
is_done_of c (Turn worker) = false

-- nothing stands before the cycle, or a turn does
abbrev pub ends_with_turn : List Event → Bool
ends_with_turn [] = true
ends_with_turn (e ∷ []) = is_turn e
ends_with_turn (e ∷ f ∷ es) = ends_with_turn (f ∷ es)

module _ {C M D : Type 0} (r : Rules C M D) where
  abbrev pub wakes_at : ℕ → Option (Place C) → Bool
  wakes_at now None = false
  wakes_at now (Some p) = must_wake r now p

  abbrev pub WakesOnce : List Event → Type 0
  WakesOnce history =
      (before cycle after : List Event) (worker : ℕ) (w : World C D) (journal : List Entry)
      → history ≡ before ++ cycle ++ Turn worker ∷ after
      → IsTrue (ends_with_turn before)
      → IsTrue (list_all (λ e. not (is_turn e)) cycle)
      → IsRun r before w journal
      → (c : ℕ) → count_by (is_done_of c) cycle ≡ (if wakes_at w.now (slice_get w.places c) then 1 else 0)
