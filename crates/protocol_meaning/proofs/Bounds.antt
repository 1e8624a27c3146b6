-- What is within an extent in a local of a controller: what the controller holds and has sent, its own number, the fields with which
-- lines begin, and the state of a line that was never set. The table of the machine's values is always as it was as the run began.
use Rattle.std.specs.Prelude.{◌≡◌, ℕ, IfSome, List, Some, slice_get}
use Rattle.std.specs.List.{All}
use Rattle.ruby_value.specs.declared.message.Delivery.{Delivery}
use Rattle.ruby_value.specs.declared.value.Ref.{Ref}
use Rattle.ruby_value.specs.declared.value.Value.{Value}
use Rattle.ctl_face.specs.declared.parcel.Parcel.{Parcel}
use Rattle.ctl_face.specs.declared.parcel.Parcel.TheVariants as parcel
use Rattle.ctl_face.specs.Prelude.{LocalView, initial_fields, ParameterTable}
use Rattle.protocol_meaning.specs.Prelude.{Extent, AreWithin, IsController, IsMember, HoldsWithin}

-- the extent, the number of the enumeration of the machine's states, and the number of the table of its values, with these
pub record Bounds : Type 0 where
  pub extent : Extent
  pub states : ℕ
  pub table : ℕ
  pub values : List Value

-- what a parcel brings; a credit has no such values
abbrev pub ParcelWithin : Extent → Parcel → Type 0
ParcelWithin e (parcel.Message m) = AreWithin e m.fields
ParcelWithin e (parcel.Credit c) = Unit {0}

module _ (b : Bounds) where
  abbrev pub CopyWithin : Delivery Parcel → Type 0
  CopyWithin c = ParcelWithin b.extent c.message

  pub record ViewWithin (v : LocalView) : Type 0 where
    pub holds : HoldsWithin b.extent b.states v.ctl
    pub kept : slice_get v.ctl.tables b.table ≡ Some (ParameterTable b.values)
    pub posted : All CopyWithin v.acts.posted
    pub me : IsController b.extent v.actor.me
    pub initial : (table : ℕ) → AreWithin b.extent (initial_fields v.machine table)
    pub default_state : IfSome v.machine.default_state (IsMember b.extent b.states)

  -- what is read off line 0 of the table of values
  abbrev pub IsKept : Ref → (field : ℕ) → Value → Type 0
  IsKept r field value = r.table ≡ b.table → r.line ≡ 0 → slice_get b.values field ≡ Some value
