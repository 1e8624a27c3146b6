-- The slots of a run. In each world, for each controller as a sender and each buffer with a size at a receiver: the sender has as many
-- slots there in use as it has credits for them, whether these have arrived or not, and as there are messages of it in that buffer at
-- the receiver, those that wait under a line or were recycled among them. So no slot is lost, and no more are free than the size says.
-- And no more are in use than the size says and than credits have arrived, so that no copy ever lacked a slot. What it needs of the
-- scans is that one which fires sends no more copies to such a buffer than slots were free there as it began. All this is this
-- project's own.
use Rattle.std.specs.Prelude.{◌≡◌, ◌≤◌, ◌+◌, ℕ, Option, None, Some, List, slice_get}
use Rattle.std.specs.List.{All}
use Rattle.ruby_value.specs.declared.message.Delivery.{Delivery}
use Rattle.run_journal.specs.declared.entry.FireNote.{FireNote}
use Rattle.ctl_face.specs.declared.parcel.Parcel.{Parcel}
use Rattle.ctl_face.specs.Prelude.{Ctl, Mail, arrived_credits, free_of, lent_at, slot_buffer, slot_receiver, slot_size}
use Rattle.protocol_runs.specs.Prelude.{Acts, Fired, FitsRun, Place, Rules, Setting, World}
use Rattle.slot_laws.specs.Slotted.{copies_sent, credits_held, messages_held}

-- the messages of a sender in a buffer of the controller at this place
abbrev pub messages_at : Option (Place Ctl) → (sender buffer : ℕ) → ℕ
messages_at None sender buffer = 0
messages_at (Some p) sender buffer = messages_held p.controller.mail.inbox sender buffer

-- of one sender with this mail, and one buffer with a size
pub record SlotsAreHeld {D : Type 0} (w : World Ctl D) (sender : ℕ) (mail : Mail) (slot : ℕ × ℕ × ℕ) : Type 0 where
  pub used :
      lent_at mail.lent (slot_receiver slot) (slot_buffer slot)
      ≡ credits_held mail.credits (slot_receiver slot) (slot_buffer slot)
      + messages_at (slice_get w.places (slot_receiver slot)) sender (slot_buffer slot)
  pub within :
      lent_at mail.lent (slot_receiver slot) (slot_buffer slot)
      ≤ slot_size slot + arrived_credits mail.credits (slot_receiver slot) (slot_buffer slot) w.now
  pub free : free_of mail w.now slot ≤ slot_size slot

module _ {D : Type 0} (s : Setting D) where
  abbrev pub SlotsHold : World Ctl D → Type 0
  SlotsHold w =
      (c : ℕ) (p : Place Ctl) → slice_get w.places c ≡ Some p
      → All (λ slot. SlotsAreHeld w c p.controller.mail slot) s.routes.slots

  -- a scan that fires takes no more slots than are free as it begins
  abbrev pub TakesFreeSlots : Rules Ctl Parcel D → Type 0
  TakesFreeSlots r =
      (c now : ℕ) (x : Ctl) → FitsRun s c x now
      → (note : FireNote) (acts : Acts) (copies : List (Delivery Parcel)) (after : Ctl)
      → (r.scan c x now).outcome ≡ Fired note acts copies after
      → All (λ slot. copies_sent acts.sent (slot_receiver slot) (slot_buffer slot) ≤ free_of x.mail now slot) s.routes.slots
