-- The definitions that other files name, from one place.
pub use Rattle.slot_laws.specs.Slotted.{HasSlotted, MovesSlots, copies_sent, credits_held, credits_posted, has_size, is_credit_to, is_message_of, is_note_to, messages_held, slots_taken}
pub use Rattle.slot_laws.specs.Slots.{SlotsAreHeld, SlotsHold, TakesFreeSlots, messages_at}
pub use Rattle.slot_laws.specs.Sends.{CountsAtMost, SendsAtMost, sent_by}
