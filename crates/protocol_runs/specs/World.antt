-- The worlds of a run, and the one that it begins in: cycle 0, nobody held or finished, no request issued, no verdict. A
-- controller is due where it must wake at this cycle and its wake-up hasn't ended in it. That a run goes by cycles, marks
-- and holders is this project's own.
use Rattle.std.specs.Prelude.{ℕ, Bool, false, Option, None, List, map, ◌&&◌, not, is_some, is_none}
use Rattle.run_journal.specs.declared.verdict.Verdict.{Verdict}
use Rattle.ruby_value.specs.Prelude.{has_mark}
use Rattle.protocol_runs.specs.RunRules.{Rules}

-- a controller in a world: whether its wake-up of this cycle has ended, and which worker holds it
pub record Place (C : Type 0) : Type 0 where
  pub controller : C
  pub finished : Bool
  pub holder : Option ℕ

-- The state of a run between two events. Controllers stand by their numbers; `issued` is how many requests the driver has
-- issued, and `next` the next cycle at which it must act.
pub record World (C D : Type 0) : Type 0 where
  pub now : ℕ
  pub places : List (Place C)
  pub driver : D
  pub issued : ℕ
  pub next : Option ℕ
  pub verdict : Option Verdict

abbrev pub opening_place : {C : Type 0} → C → Place C
opening_place c = record { controller = c; finished = false; holder = None }

abbrev pub is_held : {C : Type 0} → Place C → Bool
is_held p = is_some p.holder

module _ {C M D : Type 0} (r : Rules C M D) where
  abbrev pub opening : World C D
  opening =
      record {
        now = 0;
        places = map opening_place r.controllers;
        driver = r.driver;
        issued = 0;
        next = None;
        verdict = None;
      }

  -- its controller must wake at this cycle
  abbrev pub must_wake : ℕ → Place C → Bool
  must_wake now p = has_mark (r.marks p.controller) now

  abbrev pub is_due : ℕ → Place C → Bool
  is_due now p = must_wake now p && not p.finished

  -- due, and free to be taken
  abbrev pub is_free : ℕ → Place C → Bool
  is_free now p = is_due now p && is_none p.holder
