-- What a turn does. Where a controller has stopped, the run ends with the least-numbered one, and the driver doesn't act. Else
-- the driver acts, and then the run ends with the first verdict of the table `Comes` that comes: what the driver found, quiet,
-- cycles, journal, mail. Where none comes, the run goes on at its next cycle. That is this project's own. What the driver
-- does, and what a place is as a cycle begins, is said elsewhere.
use Rattle.std.specs.Prelude.{◌≡◌, ◌<◌, ◌≤◌, ◌+◌, ◌*◌, ℕ, true, Option, None, Some, List, [], length, map, slice_get}
use Rattle.ruby_value.specs.declared.fault.Finding.{Finding}
use Rattle.ruby_value.specs.declared.fault.Finding.TheVariants as finding
use Rattle.run_journal.specs.declared.entry.Entry.{Entry}
use Rattle.run_journal.specs.declared.entry.Entry.TheVariants.{Turned}
use Rattle.run_journal.specs.declared.verdict.Verdict.{Verdict}
use Rattle.run_journal.specs.declared.verdict.Verdict.TheVariants as verdict
use Rattle.protocol_runs.specs.RunRules.{Rules}
use Rattle.protocol_runs.specs.World.{Place, World}
use Rattle.protocol_runs.specs.Verdict.{held_mail}
use Rattle.protocol_runs.specs.NextCycle.{IsNextCycle}
use Rattle.protocol_runs.specs.WakesOnce.{wakes_at}
use Rattle.protocol_runs.specs.Step.{Stepped, with_driver_turn, driver_turn_in, delivery_numbers, begun_place}

module _ {C M D : Type 0} (r : Rules C M D) where
  -- the controller with this number has stopped
  abbrev pub HasStopped : List (Place C) → ℕ → Type 0
  HasStopped places c = (p : Place C) × (slice_get places c ≡ Some p) × (r.stopped p.controller ≡ true)

  pub record IsLeastStopped (places : List (Place C)) (c : ℕ) : Type 0 where
    pub has : HasStopped places c
    pub least : (other : ℕ) → HasStopped places other → c ≤ other

  abbrev pub HasNoneStopped : List (Place C) → Type 0
  HasNoneStopped places = (c : ℕ) → HasStopped places c → ⊥

  -- the world in which the driver has acted, what the driver found, and how many messages are in inboxes then
  abbrev pub driven_world : World C D → World C D
  driven_world w = with_driver_turn r w (driver_turn_in r w)

  abbrev pub Finds : World C D → Option Finding → Type 0
  Finds w found = (driver_turn_in r w).finding ≡ found

  abbrev pub messages_in : World C D → ℕ
  messages_in w = length (held_mail r (driven_world w).places)

  -- the next cycle after the driver has acted, or that there is none
  abbrev pub IsNextFrom : World C D → Option ℕ → Type 0
  IsNextFrom w answer = IsNextCycle r w.now (driven_world w).next (driven_world w).places answer

  -- the driver found nothing, and the next cycle is within the bound
  pub record IsWithin (w : World C D) (next : ℕ) : Type 0 where
    pub nothing : Finds w None
    pub next_cycle : IsNextFrom w (Some next)
    pub bound : next ≤ r.cycles

  -- When each verdict comes, where the driver has acted and the journal has this many entries with that of the turn. A line has
  -- 64 bytes.
  pub data Comes (w : World C D) (entries : ℕ) : Verdict → Type 0 where
    Incoherent :
        (c line offset expected byte : ℕ) → Finds w (Some (finding.Incoherent c line offset expected byte))
        → Comes w entries (verdict.Incoherent w.now c (line * 64) offset expected byte)
    Deadlock :
        (c line issued : ℕ) → Finds w (Some (finding.Deadlock c line issued))
        → Comes w entries (verdict.Deadlock w.now c (line * 64) issued)
    Passed : (checks : ℕ) → Finds w (Some (finding.Passed checks)) → Comes w entries (verdict.Passed w.now checks)
    Quiet : Finds w None → IsNextFrom w None → Comes w entries (verdict.Quiet w.now)
    Cycles :
        (next : ℕ) → Finds w None → IsNextFrom w (Some next) → r.cycles < next → Comes w entries (verdict.Cycles w.now)
    Journal : (next : ℕ) → IsWithin w next → 1000000 < entries → Comes w entries (verdict.Journal w.now entries)
    Mail :
        (next : ℕ) → IsWithin w next → entries ≤ 1000000 → 500000 < messages_in w
        → Comes w entries (verdict.Mail w.now (messages_in w))

  -- when no verdict comes, and the run goes on at this cycle
  pub record GoesOn (w : World C D) (entries next : ℕ) : Type 0 where
    pub within : IsWithin w next
    pub journal : entries ≤ 1000000
    pub mail : messages_in w ≤ 500000

  -- the entry of a turn in which the driver has acted
  abbrev pub entry_of : World C D → Option Verdict → Entry
  entry_of w v = Turned w.now (delivery_numbers r (driver_turn_in r w).requests) (driver_turn_in r w).finding v

  -- the world after a turn in the world w, and its entry, where the journal has n entries before it
  pub data IsOutcome (n : ℕ) (w : World C D) : Stepped C D → Type 0 where
    StopsAt :
        (c : ℕ) → IsLeastStopped w.places c
        → IsOutcome n w
        (record {
          world = record w { verdict = Some (verdict.Stop w.now c) };
          entry = Some (Turned w.now [] None (Some (verdict.Stop w.now c)));
        })
    EndsWith :
        (v : Verdict) → HasNoneStopped w.places → Comes w (n + 1) v
        → IsOutcome n w (record { world = record (driven_world w) { verdict = Some v }; entry = Some (entry_of w (Some v)) })
    ContinuesAt :
        (next : ℕ) → HasNoneStopped w.places → GoesOn w (n + 1) next
        → IsOutcome n w
        (record {
          world = record (driven_world w) { now = next; places = map (begun_place r next) (driven_world w).places };
          entry = Some (entry_of w None);
        })

  -- this is the world after a turn with which the run goes on: in its cycle those must wake that had a mark for it after the
  -- driver had acted, and no others
  abbrev pub WakesAsMarked : World C D → World C D → Type 0
  WakesAsMarked w after =
      (c : ℕ)
      → wakes_at r after.now (slice_get after.places c) ≡ wakes_at r after.now (slice_get (driven_world w).places c)
