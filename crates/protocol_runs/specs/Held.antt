-- A controller while a worker holds it. What the worker has is the controller as it was when it was taken, with the worker's own events
-- on it alone. The messages that others send to it meanwhile come beside it, in the order in which they are sent, and the controller
-- in the world is the one that the worker has, to which these messages have come. Which messages these are, a history says. That
-- workers hold controllers while others go on is this project's own.
use Rattle.std.specs.Prelude.{◌≡◌, ◌==◌, ◌&&◌, ℕ, Bool, false, Option, None, Some, List, [], ◌∷◌, ◌++◌, All, slice_get, fold, if◌then◌else◌}
use Rattle.std.specs.List.{flat_map}
use Rattle.run_journal.specs.declared.event.Event.{Event}
use Rattle.run_journal.specs.declared.event.Event.TheVariants.{Take, Fire, Done, Release, Turn}
use Rattle.ruby_value.specs.declared.message.Delivery.{Delivery}
use Rattle.protocol_runs.specs.RunRules.{Rules, Outcome, Full, Fired, Stop, Idle}
use Rattle.protocol_runs.specs.World.{Place, World}
use Rattle.protocol_runs.specs.Step.{Moved, step, with_arrival, with_moved}
use Rattle.protocol_runs.specs.Run.{Ran, go_on, start}
use Rattle.protocol_runs.specs.Premises.{AreNewNumbers}

-- the event is this worker's, on this controller
abbrev pub is_on : (worker c : ℕ) → Event → Bool
is_on worker c (Take other d) = other == worker && d == c
is_on worker c (Fire other d) = other == worker && d == c
is_on worker c (Done other d) = other == worker && d == c
is_on worker c (Release other d) = other == worker && d == c
is_on worker c (Turn other) = false

-- no event is
abbrev pub AreOfOthers : (worker c : ℕ) → List Event → Type 0
AreOfOthers worker c events = All (λ (e : Event). is_on worker c e ≡ false) events

abbrev pub is_take_of : ℕ → Event → Bool
is_take_of c (Take worker d) = d == c
is_take_of c (Fire worker d) = false
is_take_of c (Done worker d) = false
is_take_of c (Release worker d) = false
is_take_of c (Turn worker) = false

-- the messages for a controller among copies
abbrev pub messages_for : {M : Type 0} → ℕ → List (Delivery M) → List M
messages_for c ds = flat_map (λ (d : Delivery _). if d.receiver == c then d.message ∷ [] else []) ds

module _ {C M D : Type 0} (r : Rules C M D) where
  -- a controller to which messages have come, one after the other
  abbrev pub with_arrivals : C → List M → C
  with_arrivals x ms = fold (with_arrival r) x ms

  -- no number is twice among those of the inbox and of the messages that come
  abbrev pub AreNewFor : C → List M → Type 0
  AreNewFor x ms = AreNewNumbers r x (flat_map r.numbers ms)

  -- the copies that a scan sends
  abbrev pub copies_of : Outcome C M → List (Delivery M)
  copies_of Full = []
  copies_of (Fired note acts copies after) = copies
  copies_of (Stop at) = []
  copies_of (Idle after) = []

  abbrev pub copies_at : (now c : ℕ) → Option (Place C) → List (Delivery M)
  copies_at now c None = []
  copies_at now c (Some p) = copies_of (r.scan c p.controller now).outcome

  -- those that an event sends in a world
  abbrev pub copies_in : World C D → Event → List (Delivery M)
  copies_in w (Take worker c) = []
  copies_in w (Fire worker c) = copies_at w.now c (slice_get w.places c)
  copies_in w (Done worker c) = []
  copies_in w (Release worker c) = []
  copies_in w (Turn worker) = []

  -- the messages beside a controller after one event more of a run
  abbrev pub messages_after : ℕ → List M → Option (Ran C D) → Event → List M
  messages_after c ms None e = ms
  messages_after c ms (Some ran) e = if is_take_of c e then [] else ms ++ messages_for c (copies_in ran.world e)

  abbrev pub messages_along : ℕ → List M → Option (Ran C D) → List Event → List M
  messages_along c ms ran [] = ms
  messages_along c ms ran (e ∷ es) = messages_along c (messages_after c ms ran e) (go_on r ran e) es

  -- the messages that transitions have sent to a controller since it was taken last; a driver sends none while it is held
  abbrev pub messages_since_take : ℕ → List Event → List M
  messages_since_take c history = messages_along c [] (Some (start r)) history

  -- From one world to a later one nothing happens to the place of a controller but that more messages come to it, and the cycle and
  -- the verdict stay; `before` and `since` are the messages since its take in the one world and in the other.
  pub record HasOnlyGrown (c : ℕ) (w after : World C D) (before since : List M) : Type 0 where
    pub more : List M
    pub since_is : since ≡ before ++ more
    pub now : after.now ≡ w.now
    pub verdict : after.verdict ≡ w.verdict
    pub place :
        (p : Place C) → slice_get w.places c ≡ Some p
        → slice_get after.places c ≡ Some (record p { controller = with_arrivals p.controller more })

  -- the place of a controller that the worker holds, which it has as x, where these messages have come beside it
  abbrev pub held_place : (worker : ℕ) → C → List M → Place C
  held_place worker x ms = record { controller = with_arrivals x ms; finished = false; holder = Some worker }

  -- These messages may come to the controller x with the number c in this cycle: it fits, each message suits it, and they are new to it.
  pub record MayCome (Fits : ℕ → C → ℕ → Type 0) (Suits : ℕ → M → ℕ → Type 0) (c now : ℕ) (x : C) (ms : List M) : Type 0 where
    pub fits : Fits c x now
    pub suit : All (λ (m : M). Suits c m now) ms
    pub new : AreNewFor x ms

  -- in a world that goes on the worker holds the controller so, and these messages may come to it
  pub record IsHeldBy (Fits : ℕ → C → ℕ → Type 0) (Suits : ℕ → M → ℕ → Type 0) (worker c : ℕ) (x : C) (ms : List M) (w : World C D) : Type 0 where
    pub goes_on : w.verdict ≡ None
    pub place : slice_get w.places c ≡ Some (held_place worker x ms)
    pub come : MayCome Fits Suits c w.now x ms

  -- the event is lawful in this world, after a journal of n entries, and does this to the place of the controller
  abbrev pub IsLawfulMove : ℕ → World C D → Event → (c : ℕ) → Moved C M → Type 0
  IsLawfulMove n w e c m = step r n w e ≡ Some (record { world = with_moved r w c m; entry = m.entry })
