-- The room that a store has beside its controller: for messages and credits that arrive, each with its mark, and for the changes of a
-- scan.
-- Of both there is room for one mark more.
use Rattle.std.specs.Prelude.{◌≡◌, ◌<◌, ℕ}
use Rattle.ctl_mail.specs.Room as mail_room
use Rattle.ctl_mail.specs.Prelude.{told_by}
use Rattle.ctl_tables.specs.Stored as tables
use Rattle.ctl_store.specs.declared.changes.Changes.{Changes}
use Rattle.ctl_store.specs.declared.parts.Parts.{Parts}

abbrev pub HasRoomForParcels : Parts → ℕ → Type 0
HasRoomForParcels p parcels = mail_room.HasRoomFor p.mail parcels

abbrev pub HasRoomForMark : Parts → Type 0
HasRoomForMark p = 0 < mail_room.mark_room p.mail

pub record HasRoomForChanges (p : Parts) (changes : Changes) : Type 0 where
  pub tables : tables.HasRoomFor changes.tables p.tables
  pub mail : mail_room.HasRoom p.mail (told_by changes.mail)

-- no room is lost
pub record KeepsRoom (old new : Parts) : Type 0 where
  pub mark : HasRoomForMark old → HasRoomForMark new
  pub parcels : (n : ℕ) → HasRoomForParcels old n → HasRoomForParcels new n
  pub changes : (changes : Changes) → HasRoomForChanges old changes → HasRoomForChanges new changes

-- what a store was made for stays
pub record IsSameStore (old new : Parts) : Type 0 where
  pub machine : new.machine ≡ old.machine
  pub me : new.me ≡ old.me
