-- What a worker gets where it asks for something to do, and when it gets what: by the world that its turn under the lock found.
use Rattle.std.specs.Prelude.{◌≡◌, ◌++◌, ◌∷◌, ℕ, true, false, None, List, [], position}
use Rattle.std.specs.List.{list_any}
use Rattle.run_journal.specs.declared.event.Event.{Event}
use Rattle.run_journal.specs.declared.event.Event.TheVariants as event
use Rattle.ctl_face.specs.Prelude.{Ctl}
use Rattle.protocol_runs.specs.Prelude.{HasEnded, World, is_free, is_held}
use Rattle.ruby_world.specs.declared.world.Held.{Held as HeldController}
use Rattle.ruby_world.specs.Prelude.{CanTake, CanTurn, HasAddedAll, Holds, InWorld, WorldView, rules_in}
use Rattle.sequencer.specs.Prelude.{Drive, Seat}
use Rattle.turn_lock.specs.Prelude.{Standing}
use Rattle.network_book.specs.declared.plan.RunPlan.{RunPlan}
use Rattle.network_book.specs.declared.taken.Taken.{Taken}
use Rattle.network_book.specs.declared.taken.Taken.TheVariants.{Held, Turned, Rest, Ended}
use Rattle.network_book.specs.Numbers.{numbers_of}
use Rattle.network_book.specs.Plans.{After, HoldsAfter, IsKnown}
use Rattle.network_book.specs.Visits.{HasVisited}

-- the events that it has added
abbrev pub added_by : ℕ → Taken → List Event
added_by worker (Held h) = event.Take worker h.controller ∷ []
added_by worker Turned = event.Turn worker ∷ []
added_by worker Rest = []
added_by worker Ended = []

module _ {D : Type 0} (drive : D → List Seat → ℕ → Drive D) where
  -- the run goes on, some controller is held, and each one that is due is
  pub record IsResting (v : WorldView D) (w : World Ctl D) : Type 0 where
    pub goes_on : w.verdict ≡ None
    pub some_held : list_any is_held w.places ≡ true
    pub none_free : position (is_free (rules_in drive v) w.now) w.places ≡ None

  -- in the world that was found it is what comes
  abbrev pub Comes : Taken → WorldView D → World Ctl D → Type 0
  Comes (Held h) v w = CanTake drive v h.controller w
  Comes Turned v w = CanTurn drive v w
  Comes Rest v w = IsResting v w
  Comes Ended v w = HasEnded w

  -- a controller that is taken is held, and nothing of it is known to have stalled
  abbrev pub IsNewlyHeld : (HeldController → Type 0) → Taken → Type 0
  IsNewlyHeld P (Held h) = P h × (h.stalled ≡ false)
  IsNewlyHeld P Turned = Unit {0}
  IsNewlyHeld P Rest = Unit {0}
  IsNewlyHeld P Ended = Unit {0}

  -- by the world before it and after it
  pub record IsTakenIn (worker : ℕ) (old new : WorldView D) (t : Taken) : Type 0 where
    pub comes : InWorld drive old (Comes t old)
    pub added : HasAddedAll old (added_by worker t) new
    pub held : IsNewlyHeld (Holds drive new worker) t

module _ {D : Type 0} (least : D → ℕ) (drive : D → List Seat → ℕ → Drive D) where
  -- by the pass before it and after it
  pub record IsTaken (old new : Standing (RunPlan D)) (t : Taken) : Type 0 where
    pub visit : HasVisited old new (numbers_of (added_by old.number t))
    pub known : IsKnown least drive old.plan (old.seen ++ visit.found)
    pub comes : After drive old.plan (old.seen ++ visit.found) (Comes drive t)
    pub held : IsNewlyHeld drive (HoldsAfter least drive new.plan new.seen new.number) t
