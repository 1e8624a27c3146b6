-- What holds of a controller of a machine at each moment of a run, of its tables, its mail and its sequencer: they are those of
-- the machine, with fields of the declared kinds; each line in them is one; its own messages have numbers that it has
-- given; its counts are at most what it may send in the cycles up to now; and at no receiver it has more slots of a buffer in use than
-- messages sent. Each step of a controller keeps this.
-- A local is lawful where this holds of its controller as the scan began and now, its machine and routes are as they may be, and
-- its acts are as `ActsFit` says.
-- It doesn't say that the values of enumerations are members, nor that machine numbers are those of controllers.
use Rattle.std.specs.Prelude.{◌≡◌, ◌<◌, ◌≤◌, ◌^◌, ◌+◌, ◌*◌, ℕ, Bool, true, false, Option, None, Some, List, length, slice_get, IsTrue, IfSome, IfNone}
use Rattle.std.specs.FinMap as map
use Rattle.std.specs.Ordering.{nat_cmp}
use Rattle.std.specs.List.{All, AllPairs}
use Rattle.std.specs.List.Sorted.{IsStrictlyIncreasing}
use Rattle.ruby_value.specs.declared.value.Value.{Value}
use Rattle.ruby_value.specs.declared.kind.Kind.{Kind}
use Rattle.ruby_value.specs.Prelude.{Line, IsCache, IsLine, FitsRequests, Requests, has_kinds, number_before}
use Rattle.ctl_face.specs.ActsFit.{ActsFit}
use Rattle.ctl_face.specs.declared.parcel.Lent.{Lent}
use Rattle.ctl_face.specs.Ctl.{Ctl, InboxMessage, Mail}
use Rattle.ctl_face.specs.IsMachine.{IsMachine, network_count}
use Rattle.ctl_face.specs.OfMachine.{TakesFields}
use Rattle.ctl_face.specs.RoutesFit.{HasRoutes}
use Rattle.ctl_face.specs.LocalView.{LocalView}
use Rattle.ctl_face.specs.Send.{copy_limit}
use Rattle.ruby_value.specs.declared.setup.BufferSetup.{BufferSetup}
use Rattle.ruby_value.specs.declared.setup.MachineSetup.{MachineSetup}
use Rattle.ruby_value.specs.declared.setup.TableSetup.{TableSetup}
use Rattle.ruby_value.specs.declared.setup.TableSize.TheVariants as size
use Rattle.ruby_value.specs.declared.setup.TableSize.{TableSize}
use Rattle.ctl_face.specs.Table.{Table, CacheTable, DirectoryTable, TbeTable, ParameterTable}

-- the table is what the machine has there, with as many places, and the lines of a directory begin with these fields
abbrev pub IsOfSize : TableSize → List Value → Table → Type 0
IsOfSize (size.Cache sets ways) initial (CacheTable cache) = IsCache cache × (cache.ways ≡ ways) × (length cache.sets ≡ sets)
IsOfSize size.Directory initial (DirectoryTable directory) = directory.initial ≡ initial
IsOfSize (size.Tbe entries) initial (TbeTable tbes) = (tbes.entries ≡ entries) × (map.len tbes.held ≤ tbes.entries)
IsOfSize size.Parameters initial (ParameterTable values) = Unit {0}
IsOfSize _ initial _ = ⊥

-- a line and its fields
abbrev pub FitsLine : List Kind → Line → Type 0
FitsLine kinds l = IsLine l.0 × IsTrue (has_kinds kinds l.1)

-- each line that the table keeps fits, and so do the fields that a directory's lines begin with, and the parameters
abbrev pub FitsLines : List Kind → Table → Type 0
FitsLines kinds (CacheTable cache) = All (All (FitsLine kinds)) cache.sets
FitsLines kinds (DirectoryTable directory) =
    IsTrue (has_kinds kinds directory.initial) × ((line : ℕ) → IfSome (map.get directory.written line) (λ fields. FitsLine kinds (line, fields)))
FitsLines kinds (TbeTable tbes) = (line : ℕ) → IfSome (map.get tbes.held line) (λ fields. FitsLine kinds (line, fields))
FitsLines kinds (ParameterTable values) = IsTrue (has_kinds kinds values)

pub record FitsTable (s : TableSetup) (t : Table) : Type 0 where
  pub size : IsOfSize s.size s.initial t
  pub lines : FitsLines s.kinds t

-- at each number there is a table exactly where the machine has one
abbrev pub FitsTableAt : Option TableSetup → Option Table → Type 0
FitsTableAt None None = Unit {0}
FitsTableAt (Some s) (Some t) = FitsTable s t
FitsTableAt _ _ = ⊥

pub record FitsMessage (buffers : List BufferSetup) (me sent : ℕ) (m : InboxMessage) : Type 0 where
  pub fields : TakesFields buffers m.message.buffer m.message.fields
  pub own_number : m.message.number.sender ≡ me → m.message.number.count < sent
  pub line : IfSome m.waiting IsLine

-- no number is there twice
abbrev pub NumbersAscend : List InboxMessage → Type 0
NumbersAscend inbox = AllPairs (λ (a b : InboxMessage). IsTrue (number_before a.message.number b.message.number)) inbox

-- a machine that has a sequencer has its requests
abbrev pub FitsSequencer : Bool → Option Requests → Type 0
FitsSequencer false None = Unit {0}
FitsSequencer true (Some r) = FitsRequests r
FitsSequencer _ _ = ⊥

-- the tables, by their numbers, and the lines whose states were set, of which a machine without the built-in map has none
pub record FitsTables (machine : MachineSetup) (tables : List Table) (states : map.FinMap nat_cmp ℕ) : Type 0 where
  pub each : (table : ℕ) → FitsTableAt (slice_get machine.tables table) (slice_get tables table)
  pub lines : (line : ℕ) → IfSome (map.get states line) (λ _. IsLine line)
  pub no_states : IfNone machine.default_state (states ≡ map.empty)

-- the mail of a controller with these buffers and this actor number
pub record FitsMail (buffers : List BufferSetup) (me : ℕ) (mail : Mail) (now : ℕ) : Type 0 where
  pub inbox_ascends : NumbersAscend mail.inbox
  pub messages : All (FitsMessage buffers me mail.sent) mail.inbox
  pub marks_ascend : IsStrictlyIncreasing mail.marks
  pub networks : length mail.network_last ≡ network_count
  pub copies : mail.copies ≤ copy_limit
  pub sent : mail.sent ≤ copy_limit * now + mail.copies
  pub drawn : mail.drawn ≤ copy_limit * now + mail.copies
  pub lent : All (λ (l : Lent). l.count ≤ mail.sent) mail.lent

pub record Fits (machine : MachineSetup) (me : ℕ) (ctl : Ctl) (now : ℕ) : Type 0 where
  pub tables : FitsTables machine ctl.tables ctl.states
  pub mail : FitsMail machine.buffers me ctl.mail now
  pub sequencer : FitsSequencer machine.has_sequencer ctl.sequencer

-- the last cycle of any run
abbrev pub last_cycle : ℕ
last_cycle = 10 ^ 12

-- what holds of the setup, and of the controller as the scan began and as it is; of the run's routes more holds, which `IsInRun`
-- says
pub record ScanFits (v : LocalView) : Type 0 where
  pub machine : IsMachine v.machine
  pub routes : HasRoutes v.machine v.actor.me v.actor.routes
  pub now : v.now ≤ last_cycle
  pub start : Fits v.machine v.actor.me v.start v.now
  pub fits : Fits v.machine v.actor.me v.ctl v.now

-- what holds of each local that a run makes
pub record IsLawful (v : LocalView) : Type 0 where
  pub scan : ScanFits v
  pub acts : ActsFit v
