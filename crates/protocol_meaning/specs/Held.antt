-- What a controller holds is within an extent: each field of each line of its tables, and of those with which lines begin; the states
-- of its built-in map; and the fields of its messages. The requests of its sequencer have no such values.
use Rattle.std.specs.Prelude.{ℕ, IfSome}
use Rattle.std.specs.FinMap as map
use Rattle.std.specs.List.{All}
use Rattle.ruby_value.specs.Prelude.{Line}
use Rattle.ctl_face.specs.Prelude.{Ctl, InboxMessage, Table, CacheTable, DirectoryTable, TbeTable, ParameterTable}
use Rattle.protocol_meaning.specs.Extent.{Extent, AreWithin, IsMember}

module _ (e : Extent) where
  abbrev pub TableWithin : Table → Type 0
  TableWithin (CacheTable cache) = All (All (λ (l : Line). AreWithin e l.1)) cache.sets
  TableWithin (DirectoryTable directory) =
      AreWithin e directory.initial × ((line : ℕ) → IfSome (map.get directory.written line) (AreWithin e))
  TableWithin (TbeTable tbes) = (line : ℕ) → IfSome (map.get tbes.held line) (AreWithin e)
  TableWithin (ParameterTable values) = AreWithin e values

  abbrev pub MessageWithin : InboxMessage → Type 0
  MessageWithin o = AreWithin e o.message.fields

  -- of a machine whose states are the members of the enumeration of this number
  pub record HoldsWithin (states : ℕ) (x : Ctl) : Type 0 where
    pub tables : All TableWithin x.tables
    pub states_set : (line : ℕ) → IfSome (map.get x.states line) (IsMember e states)
    pub inbox : All MessageWithin x.mail.inbox
