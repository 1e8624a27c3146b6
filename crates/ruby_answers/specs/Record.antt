-- What a record says of the run that its options ask for: it is a whole run by the driver that they ask for. For a run over a
-- topology's file that is the random tester, which is the actor with the number after the last controller and draws from that
-- actor's words; for any other run it is the plain driver, with its number of requests. What a whole run by a driver is doesn't
-- stand here.
use Rattle.std.specs.Prelude.{ℕ, Bool, true, false, List, length}
use Rattle.random_tester.specs.Prelude.{State, made, tester_drive}
use Rattle.ruby_options.specs.declared.options.Command.{Command}
use Rattle.ruby_options.specs.declared.options.Command.TheVariants.{Run}
use Rattle.ruby_options.specs.declared.options.Options.{Options}
use Rattle.ruby_topology.specs.declared.topology.Topology.{Topology}
use Rattle.protocol_meaning.specs.declared.record.RunRecord.{RunRecord}
use Rattle.protocol_meaning.specs.Prelude.{IsWholeRunBy}
use Rattle.sequencer.specs.Prelude.{Drive, plain_drive, Seat}

-- what may be said by a driver of any type: by what it does at its seats in a cycle, and by the driver as a run begins with it
abbrev pub OfDrivers : Type 1
OfDrivers = (D : Type 0) → (D → List Seat → ℕ → Drive D) → D → Type 0

-- the random tester makes the run that is asked for, and not the plain driver
abbrev pub is_tested : Command → Bool
is_tested Run = true
is_tested command = false

abbrev pub tester_of : Options → Topology → State
tester_of o t = made o.seed (length t.names) o.lines o.checks o.deadlock

-- it is so by the random tester, or by the plain driver, as options ask for it
abbrev pub IsSoBy : Bool → Options → Topology → OfDrivers → Type 0
IsSoBy true o t P = P State tester_drive (tester_of o t)
IsSoBy false o t P = P ℕ plain_drive o.count

-- it is so by the driver that the record's options ask for
abbrev pub ByItsDriver : RunRecord → OfDrivers → Type 0
ByItsDriver r P = IsSoBy (is_tested r.options.command) r.options r.topology P

-- the record is one whole run by this driver
abbrev pub IsWholeRun : RunRecord → Type 0
IsWholeRun r = ByItsDriver r (λ D drive driver. IsWholeRunBy drive driver r)
