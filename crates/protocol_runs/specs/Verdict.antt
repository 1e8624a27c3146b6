-- How a run ends, decided at a turn. Where a controller has stopped, the least-numbered one is the verdict, and the driver
-- doesn't act. Else, after the driver has acted, it is the first of these that applies: what the driver found; quiet, where
-- no mark of a controller or of the driver is above this cycle; cycles, where the least such mark is beyond the bound;
-- journal, where the journal has more than 1,000,000 entries, with that of this turn; mail, where more than 500,000 messages
-- are in inboxes. A line has 64 bytes. All of it is this project's own.
use Rattle.std.specs.Prelude.{ℕ, Option, None, Some, List, [], ◌∷◌, ◌*◌, nat_lt, min, position, if◌then◌else◌}
use Rattle.std.specs.List.{flat_map}
use Rattle.ruby_value.specs.declared.fault.Finding.{Finding}
use Rattle.ruby_value.specs.declared.fault.Finding.TheVariants as finding
use Rattle.run_journal.specs.declared.verdict.Verdict.{Verdict}
use Rattle.run_journal.specs.declared.verdict.Verdict.TheVariants as verdict
use Rattle.protocol_runs.specs.RunRules.{Rules, Mailed}
use Rattle.protocol_runs.specs.World.{Place}

-- the lesser of two cycles, where there are two
abbrev pub earlier : Option ℕ → Option ℕ → Option ℕ
earlier None b = b
earlier (Some a) None = Some a
earlier (Some a) (Some b) = Some (min a b)

abbrev pub above : ℕ → ℕ → Option ℕ
above now mark = if nat_lt now mark then Some mark else None

-- the least mark above this cycle
abbrev pub least_above : ℕ → List ℕ → Option ℕ
least_above now [] = None
least_above now (mark ∷ marks) = earlier (above now mark) (least_above now marks)

-- a cycle at which the driver must act, if it is above this one
abbrev pub later : ℕ → Option ℕ → Option ℕ
later now None = None
later now (Some mark) = above now mark

-- what the driver found, as a verdict: a line by its first byte's address
abbrev pub found : ℕ → Option Finding → Option Verdict
found now None = None
found now (Some (finding.Incoherent c line offset expected byte)) =
    Some (verdict.Incoherent now c (line * 64) offset expected byte)
found now (Some (finding.Deadlock c line issued)) = Some (verdict.Deadlock now c (line * 64) issued)
found now (Some (finding.Passed checks)) = Some (verdict.Passed now checks)

-- where nothing must act above this cycle
abbrev pub quiet : ℕ → Option ℕ → Option Verdict
quiet now None = Some (verdict.Quiet now)
quiet now (Some next) = None

-- where the next cycle is beyond the bound
abbrev pub beyond : ℕ → ℕ → Option ℕ → Option Verdict
beyond now cycles None = None
beyond now cycles (Some next) = if nat_lt cycles next then Some (verdict.Cycles now) else None

-- the most entries of a journal, and the most messages in inboxes, with which a run goes on
abbrev pub journal_limit : ℕ
journal_limit = 1000000

abbrev pub mail_limit : ℕ
mail_limit = 500000

abbrev pub too_long : ℕ → ℕ → Option Verdict
too_long now entries = if nat_lt journal_limit entries then Some (verdict.Journal now entries) else None

abbrev pub too_full : ℕ → ℕ → Option Verdict
too_full now messages = if nat_lt mail_limit messages then Some (verdict.Mail now messages) else None

-- the first that is there
abbrev pub first_of : {A : Type 0} → List (Option A) → Option A
first_of [] = None
first_of (None ∷ rest) = first_of rest
first_of (Some a ∷ rest) = Some a

-- The verdict at a cycle after the driver has acted, if the run doesn't go on: by the bound on cycles, the next cycle, what
-- the driver found, the number of entries of the journal with that of this turn, and the number of messages in inboxes
abbrev pub verdict_after : ℕ → ℕ → Option ℕ → Option Finding → ℕ → ℕ → Option Verdict
verdict_after now cycles next finding entries messages =
    first_of (
    found now finding
    ∷ quiet now next
    ∷ beyond now cycles next
    ∷ too_long now entries
    ∷ too_full now messages
    ∷ []
    )

module _ {C M D : Type 0} (r : Rules C M D) where
  -- the least mark above this cycle of all controllers and the driver
  abbrev pub next_cycle : ℕ → Option ℕ → List (Place C) → Option ℕ
  next_cycle now next [] = later now next
  next_cycle now next (p ∷ ps) = earlier (least_above now (r.marks p.controller)) (next_cycle now next ps)

  -- the least-numbered controller that has stopped
  abbrev pub least_stopped : List (Place C) → Option ℕ
  least_stopped places = position (λ (p : Place C). r.stopped p.controller) places

  -- the messages in inboxes
  abbrev pub held_mail : List (Place C) → List Mailed
  held_mail places = flat_map (λ (p : Place C). r.mail p.controller) places
