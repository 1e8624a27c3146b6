-- What holds of the messages and of the credits among parcels holds of the parcels, and the numbers of parcels are those of the messages.
use Rattle.std.proofs.Common.{◌≡◌, ◌++◌, ℕ, List, [], ◌∷◌, All, map, refl, ap}
use Rattle.std.proofs.lemmas.List.Elements.{All-cons, All-head, All-nil, All-tail}
use Rattle.std.specs.List.{flat_map}
use Rattle.ruby_value.specs.declared.message.Delivery.{Delivery}
use Rattle.ruby_value.specs.declared.message.Message.{Message}
use Rattle.ruby_value.specs.declared.message.MsgNo.{MsgNo}
use Rattle.ctl_face.specs.declared.parcel.Credit.{Credit}
use Rattle.ctl_face.specs.declared.parcel.Parcel.{Parcel}
use Rattle.ctl_face.specs.declared.parcel.Parcel.TheVariants as parcel
use Rattle.ctl_face.specs.Prelude.{credit_in_parcel, credits_among, message_in_parcel, messages_among}
use Rattle.protocol_runs.specs.Prelude.{parcel_numbers}

module _ (M : Delivery Message → Type 0) (C : Delivery Credit → Type 0) (P : ℕ → Parcel → Type 0) where
  abbrev OfParcel : Delivery Parcel → Type 0
  OfParcel d = P d.receiver d.message

  pub all-parcels :
      ((d : Delivery Message) → M d → P d.receiver (parcel.Message d.message))
      → ((d : Delivery Credit) → C d → P d.receiver (parcel.Credit d.message))
      → (ds : List (Delivery Parcel)) → All M (messages_among ds) → All C (credits_among ds) → All OfParcel ds
  all-parcels message credit [] ms cs = All-nil OfParcel
  all-parcels message credit (d ∷ ds) ms cs = let first = parts d.receiver d.message ms cs in All-cons OfParcel d ds first.0 (all-parcels message credit ds first.1 first.2)
    where
      parts : (receiver : ℕ) (p : Parcel) → All M (message_in_parcel receiver p ++ messages_among ds) → All C (credit_in_parcel receiver p ++ credits_among ds)
          → P receiver p × All M (messages_among ds) × All C (credits_among ds)
      parts receiver (parcel.Message m) all others =
          let one : Delivery Message = record { receiver = receiver; message = m } in
          (message one (All-head M one (messages_among ds) all), All-tail M one (messages_among ds) all, others)
      parts receiver (parcel.Credit c) all others =
          let one : Delivery Credit = record { receiver = receiver; message = c } in
          (credit one (All-head C one (credits_among ds) others), all, All-tail C one (credits_among ds) others)

abbrev numbers : List (Delivery Message) → List MsgNo
numbers ms = map (λ (d : Delivery Message). d.message.number) ms

abbrev brought : List (Delivery Parcel) → List MsgNo
brought ds = flat_map (λ (d : Delivery Parcel). parcel_numbers d.message) ds

pub numbers-among : (ds : List (Delivery Parcel)) → flat_map (λ (d : Delivery Parcel). parcel_numbers d.message) ds ≡ map (λ (d : Delivery Message). d.message.number) (messages_among ds)
numbers-among [] = refl
numbers-among (d ∷ ds) = at d.receiver d.message (numbers-among ds)
  where
    at : (receiver : ℕ) (p : Parcel) → brought ds ≡ numbers (messages_among ds) → parcel_numbers p ++ brought ds ≡ numbers (message_in_parcel receiver p ++ messages_among ds)
    at receiver (parcel.Message m) rest = ap (λ (ns : List MsgNo). m.number ∷ ns) rest
    at receiver (parcel.Credit c) rest = rest
