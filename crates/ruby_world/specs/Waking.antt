-- Where one worker is in a cycle, and how far what it does brings the run.
use Rattle.std.specs.Prelude.{◌≡◌, ◌≢◌, ◌+◌, ◌-◌, ℕ, Bool, Option, None, Some, List, count_by, is_none, map, not, position, slice_get, if◌then◌else◌}
use Rattle.protocol_runs.specs.Prelude.{Place, World, is_free}
use Rattle.ctl_face.specs.Prelude.{Ctl}
use Rattle.ruby_world.specs.Worlds.{IsNobodyHeld, IsWorldOf, WorldView, rules_in}
use Rattle.sequencer.specs.Prelude.{Drive, Seat}

abbrev pub is_unfinished : {C : Type 0} → Place C → Bool
is_unfinished p = not p.finished

-- how many controllers haven't ended a wake-up in the cycle
abbrev pub unfinished : {C D : Type 0} → World C D → ℕ
unfinished w = count_by is_unfinished w.places

-- the cycle is the same, and as many controllers haven't ended a wake-up in it
pub record Stays {C D : Type 0} (before after : World C D) : Type 0 where
  pub now : after.now ≡ before.now
  pub count : unfinished after ≡ unfinished before

-- the cycle is the same, and one controller more has ended its wake-up in it
pub record Finishes {C D : Type 0} (before after : World C D) : Type 0 where
  pub now : after.now ≡ before.now
  pub fewer : unfinished after + 1 ≡ unfinished before

-- who holds each controller
abbrev pub holders : {C : Type 0} → List (Place C) → List (Option ℕ)
holders places = map (λ (p : Place _). p.holder) places

-- no controller but that of this number is held
abbrev pub IsOnlyHeld : {C D : Type 0} → ℕ → World C D → Type 0
IsOnlyHeld c w = (d : ℕ) → d ≢ c → (o : Option ℕ) → slice_get (holders w.places) d ≡ Some o → o ≡ None

-- how many cycles are left up to a bound, with the one in which the run is, where it goes on
abbrev pub cycles_left : {C D : Type 0} → ℕ → World C D → ℕ
cycles_left cycles w = (cycles - w.now) + (if is_none w.verdict then 1 else 0)

module _ {D : Type 0} (drive : D → List Seat → ℕ → Drive D) where
  -- this holds of the two worlds to which the histories lead
  abbrev pub AreWorlds : (World Ctl D → World Ctl D → Type 0) → (old new : WorldView D) → Type 0
  AreWorlds P old new = (w after : World Ctl D) → IsWorldOf drive old w → IsWorldOf drive new after → P w after

  -- the run goes on, and nobody is held
  pub record IsBetween (v : WorldView D) (w : World Ctl D) : Type 0 where
    pub goes_on : w.verdict ≡ None
    pub nobody : IsNobodyHeld drive v w

  -- the run goes on, nobody is held, and the controller of this number is the least that is due
  pub record IsNext (v : WorldView D) (c : ℕ) (w : World Ctl D) : Type 0 where
    pub between : IsBetween v w
    pub least : position (is_free (rules_in drive v) w.now) w.places ≡ Some c
