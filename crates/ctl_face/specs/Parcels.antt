-- What goes from one controller to others, in the order in which it is sent: copies of messages, and credits. Most rules are of the
-- messages among them alone.
use Rattle.std.specs.Prelude.{ℕ, List, [], ◌∷◌}
use Rattle.std.specs.List.{flat_map}
use Rattle.ruby_value.specs.declared.message.Delivery.{Delivery}
use Rattle.ruby_value.specs.declared.message.Message.{Message}
use Rattle.ctl_face.specs.declared.parcel.Credit.{Credit}
use Rattle.ctl_face.specs.declared.parcel.Parcel.{Parcel}
use Rattle.ctl_face.specs.declared.parcel.Parcel.TheVariants as parcel

abbrev pub with_message_parcel : Delivery Message → Delivery Parcel
with_message_parcel d = record { receiver = d.receiver; message = parcel.Message d.message }

abbrev pub with_credit_parcel : Delivery Credit → Delivery Parcel
with_credit_parcel d = record { receiver = d.receiver; message = parcel.Credit d.message }

abbrev pub message_in_parcel : ℕ → Parcel → List (Delivery Message)
message_in_parcel receiver (parcel.Message m) = record { receiver = receiver; message = m } ∷ []
message_in_parcel receiver (parcel.Credit c) = []

abbrev pub credit_in_parcel : ℕ → Parcel → List (Delivery Credit)
credit_in_parcel receiver (parcel.Message m) = []
credit_in_parcel receiver (parcel.Credit c) = record { receiver = receiver; message = c } ∷ []

abbrev pub messages_among : List (Delivery Parcel) → List (Delivery Message)
messages_among ds = flat_map (λ (d : Delivery Parcel). message_in_parcel d.receiver d.message) ds

abbrev pub credits_among : List (Delivery Parcel) → List (Delivery Credit)
credits_among ds = flat_map (λ (d : Delivery Parcel). credit_in_parcel d.receiver d.message) ds
