-- What a protocol means, as runs need it: what a scan of a controller answers, by the number of its machine, and which pairs of a
-- state and an event it has looked up among the written transitions; and for which pairs one is written. It is read off the trees
-- of the protocol and the symbols that these declare. A machine that isn't there has no ports, so a scan of it waits.
use Rattle.std.specs.Prelude.{ℕ, Bool, false, Option, None, Some, List, [], map, slice_get}
use Rattle.std.specs.List.{list_any}
use Rattle.slicc_ast.specs.declared.tree.item.Tree.{Tree}
use Rattle.ruby_symbols.specs.declared.machine.MachineSymbols.{MachineSymbols}
use Rattle.protocol_runs.specs.Prelude.{Fired, Full, Idle, Outcome, Scan, Stop, Tried, Meaning, acts_told}
use Rattle.ctl_face.specs.declared.parcel.Parcel.{Parcel}
use Rattle.ctl_face.specs.Prelude.{Ctl, LocalView}
use Rattle.body_meaning.specs.Prelude.{Reading, Scanned, by_try, pairs_tried, scan, is_for, Pair}
use Rattle.slicc_plan.specs.Prelude.{symbols_of}
use Rattle.body_meaning.specs.declared.frame.RoundEnd.{RoundEnd}
use Rattle.body_meaning.specs.declared.frame.RoundEnd.TheVariants as round
use Rattle.body_meaning.specs.declared.frame.Tried.TheVariants.{Waits}
use Rattle.protocol_meaning.specs.Readings.{reading_of}

-- Scans of a controller that has fired `fired_before` transitions in this cycle and may fire `limit`.

abbrev pub scan_by : Option Reading → (limit fired_before : ℕ) → LocalView → Scanned
scan_by None limit fired_before v = by_try v Waits v
scan_by (Some s) limit fired_before v = scan s limit fired_before v

unfoldable pub scan_of : List Tree → (machine limit fired_before : ℕ) → LocalView → Scanned
scan_of trees machine limit fired_before v = scan_by (reading_of trees machine) limit fired_before v

abbrev pub lookups_by : Option Reading → (limit fired_before : ℕ) → LocalView → List Pair
lookups_by None limit fired_before v = []
lookups_by (Some s) limit fired_before v = pairs_tried s limit fired_before v

unfoldable pub lookups_of : List Tree → (machine limit fired_before : ℕ) → LocalView → List Pair
lookups_of trees machine limit fired_before v = lookups_by (reading_of trees machine) limit fired_before v

-- The same, as runs have it: with what was done to messages, where a transition has fired.

abbrev pub outcome_by : RoundEnd → LocalView → Outcome Ctl Parcel
outcome_by (round.Fired note) w = Fired note (acts_told w.acts) w.acts.posted w.ctl
outcome_by round.Idle w = Idle w.ctl
outcome_by round.Full w = Full
outcome_by (round.Stop at) w = Stop at

abbrev pub outcome_of : Scanned → Outcome Ctl Parcel
outcome_of s = outcome_by s.end s.view

abbrev pub tried_pair : Pair → Tried
tried_pair p = record { address = p.address; state = p.state; event = p.event }

abbrev pub has_row_in : Option MachineSymbols → (state event : ℕ) → Bool
has_row_in None state event = false
has_row_in (Some m) state event = list_any (is_for state event) m.transitions

abbrev pub run_scan_of : List Tree → (machine : ℕ) → LocalView → (limit : ℕ) → Scan Ctl Parcel
run_scan_of trees machine v limit = record {
  outcome = outcome_of (scan_of trees machine limit v.ctl.fired v);
  tried = map tried_pair (lookups_of trees machine limit v.ctl.fired v);
}

abbrev pub meaning_of : List Tree → Meaning
meaning_of trees = record {
  scan = run_scan_of trees;
  has_row = λ machine. has_row_in (slice_get (symbols_of trees).machines machine);
}
