-- What holds of what a machine is to its controllers: each cache and TBE table has place for a line, and for no more than the
-- limits; no field of a line or of a message is a reference; the default fields of each table have their kinds; a buffer's
-- network is one of the 16; the field that names the receivers of a message to a network is a set of controllers; on one network
-- the messages of all buffers have fields of the same kinds, whatever the default members of their enumerations are called, and
-- all that go to it have their receivers in the same field; and its last table, and no other, is that of its parameters.
-- That two buffers from one network may not be is left to routes: none fit a machine that has two (`HasRoutes`).
-- That no field is a reference is the rule of SLICC in gem5; that no parameter is one, the limits, and where the parameters are,
-- are this project's own.
use Rattle.std.specs.Prelude.{◌≡◌, ◌<◌, ◌≤◌, ◌+◌, ◌*◌, ◌==◌, ℕ, Bool, true, false, List, Option, None, Some, length, slice_get, IsTrue, IfSome}
use Rattle.std.specs.List.{All}
use Rattle.ruby_value.specs.declared.kind.Kind.TheVariants.{Dest}
use Rattle.ruby_value.specs.declared.kind.Kind.{Kind}
use Rattle.ruby_value.specs.declared.setup.BufferPlace.TheVariants as place
use Rattle.ruby_value.specs.declared.setup.BufferPlace.{BufferPlace}
use Rattle.ruby_value.specs.declared.setup.BufferSetup.{BufferSetup}
use Rattle.ruby_value.specs.declared.setup.MachineSetup.{MachineSetup}
use Rattle.ruby_value.specs.declared.setup.TableSetup.{TableSetup}
use Rattle.ruby_value.specs.declared.setup.TableSize.TheVariants as size
use Rattle.ruby_value.specs.declared.setup.TableSize.{TableSize}
use Rattle.ruby_value.specs.Prelude.{has_kinds, is_reference, network_of, same_kinds}

-- how many lines a table may have place for
abbrev pub HasPlaces : TableSize → Type 0
HasPlaces (size.Cache sets ways) = (1 ≤ sets) × (1 ≤ ways) × (sets * ways ≤ 65536)
HasPlaces size.Directory = Unit {0}
HasPlaces (size.Tbe entries) = (1 ≤ entries) × (entries ≤ 256)
HasPlaces size.Parameters = Unit {0}

-- none of the kinds is one of references
abbrev pub ArePlain : List Kind → Type 0
ArePlain kinds = All (λ k. is_reference k ≡ false) kinds

pub record IsTableSetup (s : TableSetup) : Type 0 where
  pub places : HasPlaces s.size
  pub plain : ArePlain s.kinds
  pub initial : IsTrue (has_kinds s.kinds s.initial)

abbrev pub is_parameters : TableSize → Bool
is_parameters size.Parameters = true
is_parameters _ = false

-- the last table, and no other, is that of the parameters
pub record ParametersAreLast (tables : List TableSetup) : Type 0 where
  pub some : 0 < length tables
  pub last_alone :
      (table : ℕ) → IfSome (slice_get tables table) (λ (s : TableSetup). is_parameters s.size ≡ (table + 1 == length tables))

abbrev pub network_count : ℕ
network_count = 16

-- the field that names the receivers of a buffer's messages
abbrev pub receivers_field : BufferPlace → Option ℕ
receivers_field place.Local = None
receivers_field (place.To network destination) = destination
receivers_field (place.From network) = None

pub record IsBufferSetup (s : BufferSetup) : Type 0 where
  pub network : IfSome (network_of s.place) (λ n. n < network_count)
  pub receivers : IfSome (receivers_field s.place) (λ field. slice_get s.kinds field ≡ Some Dest)
  pub plain : ArePlain s.kinds

-- messages to one network have their receivers in one field
abbrev pub SameReceivers : BufferPlace → BufferPlace → Type 0
SameReceivers (place.To network destination) (place.To other other_destination) = destination ≡ other_destination
SameReceivers _ _ = Unit {0}

abbrev pub AreOnOneNetwork : BufferPlace → BufferPlace → ℕ → Type 0
AreOnOneNetwork a b network = (network_of a ≡ Some network) × (network_of b ≡ Some network)

-- if two buffers are on one network, their messages are alike
pub record AgreeOnType (a b : BufferSetup) : Type 0 where
  pub kinds : (network : ℕ) → AreOnOneNetwork a.place b.place network → IsTrue (same_kinds a.kinds b.kinds)
  pub receivers : (network : ℕ) → AreOnOneNetwork a.place b.place network → SameReceivers a.place b.place

-- so of all buffers
pub record ShareTypes (buffers : List BufferSetup) : Type 0 where
  pub one_type : All (λ a. All (AgreeOnType a) buffers) buffers

pub record IsMachine (machine : MachineSetup) : Type 0 where
  pub tables : All IsTableSetup machine.tables
  pub parameters : ParametersAreLast machine.tables
  pub buffers : All IsBufferSetup machine.buffers
  pub one_type : ShareTypes machine.buffers
