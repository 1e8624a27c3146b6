-- A store whose mail and tables have lost no room has room for all that it had room for.
use Rattle.std.proofs.Common.{◌≡◌, ◌<◌, sym, subst, arith}
use Rattle.ctl_mail.specs.Prelude.{told_by}
use Rattle.ctl_mail.specs.Room as mail_room
use Rattle.ctl_tables.specs.declared.change.TableChanges.{TableChanges}
use Rattle.ctl_tables.specs.Stored as tables
use Rattle.ctl_store.specs.declared.parts.Parts.{Parts}
use Rattle.ctl_store.specs.Prelude.{HasRoomForMark, KeepsRoom}

pub keeps : (old new : Parts) → mail_room.KeepsRoom old.mail new.mail → ((c : TableChanges) → tables.HasRoomFor c old.tables → tables.HasRoomFor c new.tables) → KeepsRoom old new
keeps old new mail kept = record {
  mark = λ room. (let before : 0 < mail_room.mark_room old.mail = room in omega (arith, mail.marks));
  parcels = mail.parcels;
  changes = λ changes room. record {
    tables = kept changes.tables room.tables;
    mail = mail.changes (told_by changes.mail) room.mail;
  };
}

-- of the parts that a store has
pub keeps_as : (old given new : Parts) → given ≡ old → KeepsRoom old new → KeepsRoom given new
keeps_as old given new is keeps_it = subst (λ (p : Parts). KeepsRoom p new) (sym is) keeps_it
