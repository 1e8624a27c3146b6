-- What a lawful event does, by cases: it moves one controller's place, it closes the run with a controller that has stopped, or
-- the driver acts and the cycle or the run ends. In a world without a verdict these are exactly the lawful events, and what
-- `step` gives for them; laws of runs are proved over these cases.
use Rattle.std.specs.Prelude.{◌≡◌, ℕ, true, false, None, Some, List, [], ◌+◌, slice_get}
use Rattle.std.specs.List.{list_any}
use Rattle.run_journal.specs.declared.entry.End.{End}
use Rattle.run_journal.specs.declared.entry.End.TheVariants as end
use Rattle.run_journal.specs.declared.entry.FireNote.{FireNote}
use Rattle.run_journal.specs.declared.entry.StopAt.{StopAt}
use Rattle.run_journal.specs.declared.event.Event.{Event}
use Rattle.run_journal.specs.declared.event.Event.TheVariants.{Take, Fire, Done, Release, Turn}
use Rattle.protocol_runs.specs.RunRules.{Rules, Acts, Full, Fired, Stop, Idle}
use Rattle.ruby_value.specs.declared.message.Delivery.{Delivery}
use Rattle.protocol_runs.specs.World.{Place, World, is_free}
use Rattle.protocol_runs.specs.Verdict.{least_stopped}
use Rattle.protocol_runs.specs.Step.{Stepped, Moved, held_by, held_by_nobody, with_controller, fired_entry, given_back, with_moved, is_busy, stopped_by, with_driver_turn, after_driver, driver_turn_in}

module _ {C M D : Type 0} (r : Rules C M D) where
  -- a wake-up of this controller ends so, with this controller after it
  pub data Ends (c now : ℕ) (x : C) : C → End → Type 0 where
    Idled : (after : C) → (r.scan c x now).outcome ≡ Idle after → Ends c now x after end.Idle
    Filled : (r.scan c x now).outcome ≡ Full → Ends c now x (r.with_mark x (now + 1)) end.Full
    Halted : (at : StopAt) → (r.scan c x now).outcome ≡ Stop at → Ends c now x (r.with_stop x at) (end.Stop at)

  -- an event of this controller at this place
  pub data Move (now c : ℕ) (p : Place C) : Event → Moved C M → Type 0 where
    Taken :
        (worker : ℕ) → is_free r now p ≡ true
        → Move now c p (Take worker c) (record { place = held_by worker p; copies = []; entry = None })
    FiredBy :
        (worker : ℕ) (note : FireNote) (acts : Acts) (copies : List (Delivery M)) (after : C)
        → p.holder ≡ Some worker
        → (r.scan c p.controller now).outcome ≡ Fired note acts copies after
        → Move now c p (Fire worker c)
        (record { place = with_controller p (r.with_one_fired after); copies = copies; entry = Some (fired_entry now c note acts) })
    EndedBy :
        (worker : ℕ) (after : C) (e : End)
        → p.holder ≡ Some worker → Ends c now p.controller after e
        → Move now c p (Done worker c) (given_back r now c after e)
    Released :
        (worker : ℕ) → p.holder ≡ Some worker
        → Move now c p (Release worker c) (record { place = held_by_nobody p; copies = []; entry = None })

  abbrev pub IsIdle : World C D → Type 0
  IsIdle w = list_any (is_busy r w.now) w.places ≡ false

  -- an event in this world, which a journal of n entries has led to
  pub data Change (n : ℕ) (w : World C D) : Event → Stepped C D → Type 0 where
    Moves :
        (c : ℕ) (p : Place C) (e : Event) (m : Moved C M) → slice_get w.places c ≡ Some p → Move w.now c p e m
        → Change n w e (record { world = with_moved r w c m; entry = m.entry })
    Closes :
        (worker c : ℕ) → IsIdle w → least_stopped r w.places ≡ Some c
        → Change n w (Turn worker) (stopped_by r w c)
    Turns :
        (worker : ℕ) → IsIdle w → least_stopped r w.places ≡ None
        → Change n w (Turn worker)
        (after_driver r n (with_driver_turn r w (driver_turn_in r w)) (driver_turn_in r w))
