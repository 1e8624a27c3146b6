-- One event: the world after it, and its entry in the journal if it has one. Where there is no such world, the event isn't
-- lawful in the world before it. No event is lawful once a verdict stands. An event of a controller changes its place, and
-- the copies that it sent go to their receivers; a turn closes the run with the least-numbered controller that has stopped,
-- or goes through the driver to the next cycle or a verdict. The steps of a run are this project's own; gem5 has one queue
-- of events in their place.
use Rattle.std.specs.Prelude.{ℕ, Bool, true, false, Option, None, Some, List, [], ◌∷◌, ◌+◌, ◌||◌, ◌==◌, map, length, fold, slice_get, slice_set, is_none, if◌then◌else◌}
use Rattle.std.specs.List.{flat_map, list_any}
use Rattle.ruby_value.specs.declared.fault.Finding.{Finding}
use Rattle.ruby_value.specs.declared.message.MsgNo.{MsgNo}
use Rattle.run_journal.specs.declared.entry.End.{End}
use Rattle.run_journal.specs.declared.entry.End.TheVariants as end
use Rattle.run_journal.specs.declared.entry.Entry.{Entry}
use Rattle.run_journal.specs.declared.entry.Entry.TheVariants as entry
use Rattle.run_journal.specs.declared.entry.FireNote.{FireNote}
use Rattle.run_journal.specs.declared.event.Event.{Event}
use Rattle.run_journal.specs.declared.event.Event.TheVariants.{Take, Fire, Done, Release, Turn}
use Rattle.run_journal.specs.declared.verdict.Verdict.{Verdict}
use Rattle.run_journal.specs.declared.verdict.Verdict.TheVariants as verdict
use Rattle.protocol_runs.specs.RunRules.{Rules, Acts, Outcome, Full, Fired, Stop, Idle, DriverTurn}
use Rattle.ruby_value.specs.declared.message.Delivery.{Delivery}
use Rattle.protocol_runs.specs.World.{Place, World, is_held, is_due, is_free}
use Rattle.protocol_runs.specs.Verdict.{least_stopped, next_cycle, held_mail, verdict_after}

-- a world, and the entry that leads to it
pub record Stepped (C D : Type 0) : Type 0 where
  pub world : World C D
  pub entry : Option Entry

-- what an event of a controller does: its place after it, the copies for others, and the entry
pub record Moved (C M : Type 0) : Type 0 where
  pub place : Place C
  pub copies : List (Delivery M)
  pub entry : Option Entry

abbrev pub is_holder : ℕ → Option ℕ → Bool
is_holder worker None = false
is_holder worker (Some other) = other == worker

-- the places with each controller changed by its number; the first place has this number
abbrev pub changed_from : {C : Type 0} → ℕ → (ℕ → C → C) → List (Place C) → List (Place C)
changed_from c change [] = []
changed_from c change (p ∷ ps) = record p { controller = change c p.controller } ∷ changed_from (c + 1) change ps

-- a place that this worker holds, one that nobody holds, and one with another controller
abbrev pub held_by : {C : Type 0} → ℕ → Place C → Place C
held_by worker p = record p { holder = Some worker }

abbrev pub held_by_nobody : {C : Type 0} → Place C → Place C
held_by_nobody p = record p { holder = None }

abbrev pub with_controller : {C : Type 0} → Place C → C → Place C
with_controller p x = record p { controller = x }

abbrev pub fired_entry : ℕ → ℕ → FireNote → Acts → Entry
fired_entry now c note acts =
    entry.Fired now c note acts.consumed acts.sent acts.stalled acts.woken acts.recycled

module _ {C M D : Type 0} (r : Rules C M D) where
  -- a controller to which a message has come: it is in the inbox, and its arrival among the marks
  abbrev pub with_arrival : C → M → C
  with_arrival x m = r.with_mark (r.with_message x m) (r.arrival m)

  -- the message has come to its receiver, which is at this place
  abbrev pub with_delivery_at : List (Place C) → Delivery M → Option (Place C) → List (Place C)
  with_delivery_at places d None = places
  with_delivery_at places d (Some p) =
      slice_set places d.receiver (with_controller p (with_arrival p.controller d.message))

  abbrev pub with_delivery : List (Place C) → Delivery M → List (Place C)
  with_delivery places d = with_delivery_at places d (slice_get places d.receiver)

  -- the messages have come to their receivers, one after the other
  abbrev pub with_deliveries : List (Place C) → List (Delivery M) → List (Place C)
  with_deliveries places ds = fold with_delivery places ds

  -- a free place is held by the worker
  abbrev pub take : ℕ → ℕ → Place C → Option (Moved C M)
  take now worker p =
      if is_free r now p
      then Some (record { place = held_by worker p; copies = []; entry = None })
      else None

  -- the controller that fired, with one more transition in this cycle, and the copies that it sent
  abbrev pub fired_by : ℕ → ℕ → Place C → Outcome C M → Option (Moved C M)
  fired_by now c p (Fired note acts copies after) =
      Some (record {
        place = with_controller p (r.with_one_fired after);
        copies = copies;
        entry = Some (fired_entry now c note acts);
      })
  fired_by now c p Full = None
  fired_by now c p (Stop at) = None
  fired_by now c p (Idle after) = None

  abbrev pub fire : ℕ → ℕ → ℕ → Place C → Option (Moved C M)
  fire now worker c p =
      if is_holder worker p.holder then fired_by now c p (r.scan c p.controller now).outcome else None

  -- the place is given back: finished in this cycle, and held by nobody
  abbrev pub given_back : ℕ → ℕ → C → End → Moved C M
  given_back now c after e =
      record {
        place = record { controller = after; finished = true; holder = None };
        copies = [];
        entry = Some (entry.Ended now c e);
      }

  -- the wake-up ends, unless its scan fired. A full controller wakes again in the next cycle, and a fault stops it
  abbrev pub ended_by : ℕ → ℕ → C → Outcome C M → Option (Moved C M)
  ended_by now c x Full = Some (given_back now c (r.with_mark x (now + 1)) end.Full)
  ended_by now c x (Fired note acts copies after) = None
  ended_by now c x (Stop at) = Some (given_back now c (r.with_stop x at) (end.Stop at))
  ended_by now c x (Idle after) = Some (given_back now c after end.Idle)

  abbrev pub done : ℕ → ℕ → ℕ → Place C → Option (Moved C M)
  done now worker c p =
      if is_holder worker p.holder then ended_by now c p.controller (r.scan c p.controller now).outcome else None

  abbrev pub release : ℕ → Place C → Option (Moved C M)
  release worker p =
      if is_holder worker p.holder
      then Some (record { place = held_by_nobody p; copies = []; entry = None })
      else None

  -- the place comes into the world, and then the copies to their receivers
  abbrev pub with_moved : World C D → ℕ → Moved C M → World C D
  with_moved w c m = record w { places = with_deliveries (slice_set w.places c m.place) m.copies }

  abbrev pub moved : World C D → ℕ → Option (Moved C M) → Option (Stepped C D)
  moved w c None = None
  moved w c (Some m) = Some (record { world = with_moved w c m; entry = m.entry })

  abbrev pub at_place : World C D → ℕ → (Place C → Option (Moved C M)) → Option (Place C) → Option (Stepped C D)
  at_place w c move None = None
  at_place w c move (Some p) = moved w c (move p)

  -- somebody is held, or must wake
  abbrev pub is_busy : ℕ → Place C → Bool
  is_busy now p = is_held p || is_due r now p

  -- a place as a cycle begins: nobody is finished
  abbrev pub begun_place : ℕ → Place C → Place C
  begun_place now p = record p { controller = r.at_cycle p.controller now; finished = false }

  -- the world goes on to its next cycle, or the verdict stands
  abbrev pub next_world : World C D → Option ℕ → Option Verdict → World C D
  next_world w next (Some v) = record w { verdict = Some v }
  next_world w None None = w
  next_world w (Some now) None = record w { now = now; places = map (begun_place now) w.places }

  -- the world in which the driver has taken its answers, and its requests have come to their receivers
  abbrev pub with_driver_turn : World C D → DriverTurn C M D → World C D
  with_driver_turn w d =
      record w {
        places = with_deliveries (changed_from 0 d.controller_after w.places) d.requests;
        driver = d.driver;
        issued = w.issued + length d.requests;
        next = d.next;
      }

  abbrev pub delivery_numbers : List (Delivery M) → List MsgNo
  delivery_numbers ds = flat_map (λ (d : Delivery M). r.numbers d.message) ds

  abbrev pub next_in : World C D → Option ℕ
  next_in w = next_cycle r w.now w.next w.places

  -- the verdict in a world in which the driver has acted and found this, before a turn's entry after n others
  abbrev pub verdict_in : ℕ → World C D → Option Finding → Option Verdict
  verdict_in n w finding = verdict_after w.now r.cycles (next_in w) finding (n + 1) (length (held_mail r w.places))

  -- the end of a turn, in the world in which the driver has acted, where the journal has n entries before it
  abbrev pub after_driver : ℕ → World C D → DriverTurn C M D → Stepped C D
  after_driver n w d =
      let verdict = verdict_in n w d.finding in
      record {
        world = next_world w (next_in w) verdict;
        entry = Some (entry.Turned w.now (delivery_numbers d.requests) d.finding verdict);
      }

  -- the run ends with a controller that has stopped; the driver doesn't act
  abbrev pub stopped_by : World C D → ℕ → Stepped C D
  stopped_by w c =
      let v = verdict.Stop w.now c in
      record { world = record w { verdict = Some v }; entry = Some (entry.Turned w.now [] None (Some v)) }

  -- what the driver does in a world
  abbrev pub driver_turn_in : World C D → DriverTurn C M D
  driver_turn_in w = r.driver_turn w.driver (map (λ (p : Place C). p.controller) w.places) w.now w.issued

  abbrev pub turn_by : ℕ → World C D → Option ℕ → Stepped C D
  turn_by n w (Some c) = stopped_by w c
  turn_by n w None = after_driver n (with_driver_turn w (driver_turn_in w)) (driver_turn_in w)

  abbrev pub turn : ℕ → World C D → Option (Stepped C D)
  turn n w = if list_any (is_busy w.now) w.places then None else Some (turn_by n w (least_stopped r w.places))

  abbrev pub step_lawfully : ℕ → World C D → Event → Option (Stepped C D)
  step_lawfully n w (Take worker c) = at_place w c (take w.now worker) (slice_get w.places c)
  step_lawfully n w (Fire worker c) = at_place w c (fire w.now worker c) (slice_get w.places c)
  step_lawfully n w (Done worker c) = at_place w c (done w.now worker c) (slice_get w.places c)
  step_lawfully n w (Release worker c) = at_place w c (release worker) (slice_get w.places c)
  step_lawfully n w (Turn worker) = turn n w

  -- the event in a world that a journal of n entries has led to
  unfoldable pub step : ℕ → World C D → Event → Option (Stepped C D)
  step n w e = if is_none w.verdict then step_lawfully n w e else None
