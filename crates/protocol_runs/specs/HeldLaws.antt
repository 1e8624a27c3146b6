-- What a worker may count on of a controller that it holds, whatever others do meanwhile. What others do leaves it held, and changes
-- it by the messages alone that come to it. And to fire or to end its wake-up, the worker needs no more than the controller as it has
-- it: the scan of that answers the scan of the controller in the world, and what the worker has then, with the messages that have
-- come, is the controller in the world again. So a worker scans outside of the world.
use Rattle.std.specs.Prelude.{◌≡◌, ◌≢◌, ◌++◌, ℕ, true, None, Some, List, [], ◌∷◌, length, slice_get}
use Rattle.run_journal.specs.declared.entry.End.{End}
use Rattle.run_journal.specs.declared.entry.Entry.{Entry}
use Rattle.run_journal.specs.declared.entry.FireNote.{FireNote}
use Rattle.run_journal.specs.declared.event.Event.{Event}
use Rattle.run_journal.specs.declared.event.Event.TheVariants.{Take, Fire, Done, Release}
use Rattle.ruby_value.specs.declared.message.Delivery.{Delivery}
use Rattle.protocol_runs.specs.RunRules.{Acts, Fired, Rules}
use Rattle.protocol_runs.specs.World.{Place, World, is_free}
use Rattle.protocol_runs.specs.Step.{Moved, Stepped, fired_entry, given_back, held_by, held_by_nobody, step, with_moved}
use Rattle.protocol_runs.specs.Run.{IsRun}
use Rattle.protocol_runs.specs.Change.{Ends}
use Rattle.protocol_runs.specs.Held.{AreOfOthers, HasOnlyGrown, IsHeldBy, IsLawfulMove, MayCome, copies_in, held_place, messages_for, messages_since_take, with_arrivals}

module _ {C M D : Type 0} (r : Rules C M D) where
  -- What others do leaves a controller held, and no more than messages come to it
  abbrev pub HeldControllersGrow : Type 0
  HeldControllersGrow =
      (history rest : List Event) (w v : World C D) (journal later : List Entry) (worker c : ℕ) (p : Place C)
      → IsRun r history w journal → IsRun r (history ++ rest) v later
      → slice_get w.places c ≡ Some p → p.holder ≡ Some worker → AreOfOthers worker c rest
      → HasOnlyGrown r c w v (messages_since_take r c history) (messages_since_take r c (history ++ rest))

module _ {C M D : Type 0} (r : Rules C M D) (Fits : ℕ → C → ℕ → Type 0) (Suits : ℕ → M → ℕ → Type 0) where
  -- after a history the worker holds the controller, which it has as x, and what has come since its take is beside it
  abbrev pub IsHeldAfter : List Event → (worker c : ℕ) → C → World C D → Type 0
  IsHeldAfter history worker c x w = IsHeldBy r Fits Suits worker c x (messages_since_take r c history) w

  -- a worker that takes a controller has it as it is in the world, and nothing is beside it
  abbrev pub TakesHold : Type 0
  TakesHold =
      (history : List Event) (w : World C D) (journal : List Entry) (worker c : ℕ) (p : Place C)
      → IsRun r history w journal → w.verdict ≡ None
      → slice_get w.places c ≡ Some p → is_free r w.now p ≡ true
      → let m : Moved C M = record { place = held_by worker p; copies = []; entry = None } in
      IsLawfulMove r (length journal) w (Take worker c) c m
      × (messages_since_take r c (history ++ Take worker c ∷ []) ≡ [])
      × IsHeldAfter (history ++ Take worker c ∷ []) worker c p.controller (with_moved r w c m)

  -- what others do changes nothing of what it has
  abbrev pub OthersLeaveHeld : Type 0
  OthersLeaveHeld =
      (history rest : List Event) (w v : World C D) (journal later : List Entry) (worker c : ℕ) (x : C)
      → IsRun r history w journal → IsRun r (history ++ rest) v later → AreOfOthers worker c rest
      → IsHeldAfter history worker c x w → IsHeldAfter (history ++ rest) worker c x v

  -- it fires where the scan of what it has fires, as this says, and has then what that scan leaves
  abbrev pub HeldFires : Type 0
  HeldFires =
      (history : List Event) (w : World C D) (journal : List Entry) (worker c : ℕ) (x : C)
      → IsRun r history w journal → IsHeldAfter history worker c x w
      → (note : FireNote) (acts : Acts) (copies : List (Delivery M)) (after : C)
      → (r.scan c x w.now).outcome ≡ Fired note acts copies after
      → let m : Moved C M = record {
        place = held_place r worker (r.with_one_fired after) (messages_since_take r c history);
        copies = copies;
        entry = Some (fired_entry w.now c note acts);
      } in
      IsLawfulMove r (length journal) w (Fire worker c) c m
      × IsHeldAfter (history ++ Fire worker c ∷ []) worker c (r.with_one_fired after) (with_moved r w c m)

  -- it ends a wake-up where the scan of what it has ends it, and what has come may come to the controller that this leaves
  abbrev pub HeldEnds : Type 0
  HeldEnds =
      (history : List Event) (w : World C D) (journal : List Entry) (worker c : ℕ) (x : C)
      → IsRun r history w journal → IsHeldAfter history worker c x w
      → (after : C) (e : End) → Ends r c w.now x after e
      → IsLawfulMove r (length journal) w (Done worker c) c
      (given_back r w.now c (with_arrivals r after (messages_since_take r c history)) e)
      × MayCome r Fits Suits c w.now after (messages_since_take r c history)

  -- it may give the controller back at any time
  abbrev pub HeldIsReleased : Type 0
  HeldIsReleased =
      (history : List Event) (w : World C D) (journal : List Entry) (worker c : ℕ) (x : C)
      → IsRun r history w journal → IsHeldAfter history worker c x w
      → IsLawfulMove r (length journal) w (Release worker c) c
      (record { place = held_by_nobody (held_place r worker x (messages_since_take r c history)); copies = []; entry = None })

  -- What a transition of one controller sends to another may come to it, beside what is there already, whether anybody holds it or
  -- not. So what has come to a controller need never be put into it before it is taken.
  abbrev pub CopiesMayCome : Type 0
  CopiesMayCome =
      (history : List Event) (w : World C D) (journal : List Entry) (worker d : ℕ) (st : Stepped C D)
      → IsRun r history w journal → step r (length journal) w (Fire worker d) ≡ Some st
      → (c : ℕ) (p : Place C) (x : C) (ms : List M) → c ≢ d → slice_get w.places c ≡ Some p
      → p.controller ≡ with_arrivals r x ms → MayCome r Fits Suits c w.now x ms
      → let more : List M = ms ++ messages_for c (copies_in r w (Fire worker d)) in
      (slice_get st.world.places c ≡ Some (record p { controller = with_arrivals r x more }))
      × MayCome r Fits Suits c w.now x more
