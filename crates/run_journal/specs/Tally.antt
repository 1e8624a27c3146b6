-- How many events of each kind a worker has in a history.
use Rattle.std.specs.Prelude.{ℕ, Bool, false, List, ◌==◌, count_by}
use Rattle.run_journal.specs.declared.event.Event.{Event}
use Rattle.run_journal.specs.declared.event.Event.TheVariants.{Take, Fire, Done, Release, Turn}
use Rattle.run_journal.specs.declared.summary.Tally.{Tally}
use Rattle.run_journal.specs.declared.tallying.EventKind.{EventKind}
use Rattle.run_journal.specs.declared.tallying.EventKind.TheVariants.{Takes, Fires, Dones, Releases, Turns}

-- an event of this kind, and by this worker
abbrev pub is_by : EventKind → ℕ → Event → Bool
is_by Takes worker (Take w c) = w == worker
is_by Fires worker (Fire w c) = w == worker
is_by Dones worker (Done w c) = w == worker
is_by Releases worker (Release w c) = w == worker
is_by Turns worker (Turn w) = w == worker
is_by kind worker e = false

abbrev pub tally : ℕ → List Event → Tally
tally worker history =
    record {
      worker = worker;
      takes = count_by (is_by Takes worker) history;
      fires = count_by (is_by Fires worker) history;
      dones = count_by (is_by Dones worker) history;
      releases = count_by (is_by Releases worker) history;
      turns = count_by (is_by Turns worker) history;
    }
