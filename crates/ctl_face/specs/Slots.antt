-- How sends and dequeues go by the sizes of buffers. A message to a buffer with a size takes a slot of its sender there, also where the
-- sender is the receiver. The dequeue of a message whose sender is a controller, from a buffer with a size, sends one credit back: it
-- arrives in the next cycle. A driver's message takes no slot. How many slots are left on a buffer that a machine sends on, is the least
-- that is free at any receiver whose buffer there has a size, whomever a message names; of a network without such a receiver, and of an
-- own buffer without a size, nothing is told. All this is this project's own.
use Rattle.std.specs.Prelude.{ℕ, Bool, true, false, Option, None, Some, List, [], ◌∷◌, ◌+◌, ◌==◌, ◌&&◌, not, map, min, is_some, nat_lt, if◌then◌else◌}
use Rattle.std.specs.List.{filter, fold}
use Rattle.ruby_value.specs.declared.message.Delivery.{Delivery}
use Rattle.ruby_value.specs.declared.message.MsgNo.{MsgNo}
use Rattle.ruby_value.specs.declared.setup.BufferPlace.TheVariants as place
use Rattle.ruby_value.specs.declared.setup.BufferPlace.{BufferPlace}
use Rattle.ctl_face.specs.declared.parcel.Credit.{Credit}
use Rattle.ctl_face.specs.declared.parcel.Lent.{Lent}
use Rattle.ctl_face.specs.declared.parcel.Parcel.{Parcel}
use Rattle.ctl_face.specs.declared.routes.Routes.{Routes}
use Rattle.ctl_face.specs.Credits.{free_slots, with_lent}
use Rattle.ctl_face.specs.Ctl.{Mail}
use Rattle.ctl_face.specs.LocalView.{Actor, LocalView}
use Rattle.ctl_face.specs.Mailing.{mail_with_credit}
use Rattle.ctl_face.specs.OfMachine.{buffer_place}
use Rattle.ctl_face.specs.Parcels.{with_credit_parcel}
use Rattle.ctl_face.specs.Routing.{controller_count, is_buffer, receiving_buffer, size_of, slot_buffer, slot_receiver, slot_size}

-- the slots in use after one copy more to a buffer at a receiver
abbrev pub lent_after : Routes → List Lent → (receiver buffer : ℕ) → List Lent
lent_after routes lent receiver buffer = if is_some (size_of routes receiver buffer) then with_lent lent receiver buffer else lent

-- a message of this number that is consumed from the controller's buffer had a slot there
abbrev pub had_slot : Actor → (buffer : ℕ) → MsgNo → Bool
had_slot actor buffer number = is_some (size_of actor.routes actor.me buffer) && nat_lt number.sender (controller_count actor.routes)

-- the credit for it
abbrev pub credit_for : Actor → (buffer now : ℕ) → MsgNo → Delivery Credit
credit_for actor buffer now number =
    record { receiver = number.sender; message = record { receiver = actor.me; buffer = buffer; arrival = now + 1 } }

-- the mail of the controller, which may have been the sender
abbrev pub mail_if_credited : Bool → Mail → Credit → Mail
mail_if_credited false mail c = mail
mail_if_credited true mail c = mail_with_credit mail c

abbrev pub mail_after_dequeue : Actor → (buffer now : ℕ) → MsgNo → Mail → Mail
mail_after_dequeue actor buffer now number mail =
    mail_if_credited (had_slot actor buffer number && number.sender == actor.me) mail (credit_for actor buffer now number).message

-- what goes to another controller, if that was the sender
abbrev pub posted_credits : Actor → (buffer now : ℕ) → MsgNo → List (Delivery Parcel)
posted_credits actor buffer now number =
    if had_slot actor buffer number && not (number.sender == actor.me) then with_credit_parcel (credit_for actor buffer now number) ∷ []
    else []

-- what is sent on a buffer of this sort comes to this buffer with a size
abbrev pub leads_to : Actor → (buffer : ℕ) → Option BufferPlace → ℕ × ℕ × ℕ → Bool
leads_to actor buffer (Some place.Local) s = slot_receiver s == actor.me && slot_buffer s == buffer
leads_to actor buffer (Some (place.To network destination)) s =
    is_buffer (slot_buffer s) (receiving_buffer actor.routes (slot_receiver s) network)
leads_to actor buffer (Some (place.From network)) s = false
leads_to actor buffer None s = false

abbrev pub free_of : Mail → (now : ℕ) → ℕ × ℕ × ℕ → ℕ
free_of mail now s = free_slots mail.lent mail.credits (slot_size s) (slot_receiver s) (slot_buffer s) now

-- the least of some numbers, if there are any
abbrev pub least_of : List ℕ → Option ℕ
least_of [] = None
least_of (n ∷ ns) = Some (fold min n ns)

abbrev pub slots : LocalView → ℕ → Option ℕ
slots v buffer =
    least_of (map (free_of v.ctl.mail v.now) (filter (leads_to v.actor buffer (buffer_place v.machine buffer)) v.actor.routes.slots))
