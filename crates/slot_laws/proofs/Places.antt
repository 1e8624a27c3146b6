-- Places of a run: where messages have come to them, or one has changed, and that what comes to each has new numbers.
use Rattle.std.proofs.Common.{◌≡◌, ◌≢◌, ◌<◌, ◌≤◌, ◌+◌, ◌⊎◌, ◌∙◌, ℕ, List, [], ◌∷◌, Option, None, Some, All, inl, inr, length, map, refl, sym, arith, slice_get, slice_set}
use Rattle.std.specs.Prelude.{count_by}
use Rattle.std.specs.List.{flat_map}
use Rattle.std.proofs.lemmas.List.Elements.{All-append, All-cons, All-nil}
use Rattle.std.proofs.lemmas.Option.{same_Some, slice_get-get_or, slice_get_within}
use Rattle.ruby_value.specs.declared.message.Delivery.{Delivery}
use Rattle.ruby_value.specs.declared.message.MsgNo.{MsgNo}
use Rattle.ruby_value.specs.Prelude.{same_number}
use Rattle.ctl_face.specs.declared.parcel.Parcel.{Parcel}
use Rattle.ctl_face.specs.declared.parcel.Parcel.TheVariants as parcel
use Rattle.ctl_face.specs.Prelude.{Ctl}
use Rattle.sequencer.specs.declared.issued.Issued.{Issued}
use Rattle.protocol_runs.specs.Prelude.{Mailed, Place, Rules, SeatSetup, mailed, parcel_numbers, request_at, request_messages, with_deliveries}
use Rattle.protocol_runs.specs.Prelude.{messages_for}
use Rattle.protocol_runs.proofs.HeldGrow.{deliveries-at, grown}
use Rattle.protocol_runs.proofs.Places.{deliveries-length, set-at}
use Rattle.slot_laws.proofs.Coming.{AreNewTo}
use Rattle.slot_laws.proofs.Counts.{count-map}

module _ {C M D : Type 0} (r : Rules C M D) where
  -- where a place comes from to which messages have come
  pub came_from : (places : List (Place C)) (ds : List (Delivery M)) (d : ℕ) (q : Place C) → slice_get (with_deliveries r places ds) d ≡ Some q
      → (p : Place C) × (slice_get places d ≡ Some p) × (grown r p (messages_for d ds) ≡ q)
  came_from places ds d q there =
      let within = slice_get_within (with_deliveries r places ds) d q there in
      let same = deliveries-length r places ds in
      by (slice_get places d) refl (omega arith)
    where
      by : (o : Option (Place C)) → slice_get places d ≡ o → d < length places → (p : Place C) × (slice_get places d ≡ Some p) × (grown r p (messages_for d ds) ≡ q)
      by None none inside = absurd (cc (slice_get-get_or places d q inside, none))
      by (Some p) here inside = (p, here, same_Some (grown r p (messages_for d ds)) q (sym (deliveries-at r d places ds p here) ∙ there))

-- a place of places of which one has changed: that one, or another as it was
pub after_set : {X : Type 0} (places : List X) (c d : ℕ) (p q y : X) → slice_get places c ≡ Some p → slice_get (slice_set places c q) d ≡ Some y
    → ((c ≡ d) × (q ≡ y)) ⊎ ((c ≢ d) × (slice_get places d ≡ Some y))
after_set places c d p q y there is =
    set-at (λ o. o ≡ Some y → ((c ≡ d) × (q ≡ y)) ⊎ ((c ≢ d) × (slice_get places d ≡ Some y))) places c d p q there
    (λ same here. inl (same, same_Some q y here)) (λ apart here. inr (apart, here)) is

-- new numbers, as an inbox has them
pub new_to : {D : Type 0} (r : Rules Ctl Parcel D) (x : Ctl) (ps : List Parcel)
    → ((number : MsgNo) → count_by (same_number number) (flat_map parcel_numbers ps) + count_by (same_number number) (map (λ (m : Mailed). m.number) (map mailed x.mail.inbox)) ≤ 1)
    → AreNewTo x.mail.inbox ps
new_to r x ps few number =
    let t = same_number number in
    let first = count-map (λ (m : Mailed). m.number) t (map mailed x.mail.inbox) in
    let second = count-map mailed (λ (m : Mailed). t m.number) x.mail.inbox in
    let all = few number in
    omega arith

-- a driver's requests are its messages
abbrev pub IsOfDriver : ℕ → Parcel → Type 0
IsOfDriver n (parcel.Message m) = m.number.sender ≡ n
IsOfDriver n (parcel.Credit c) = ⊥

abbrev pub DeliveredByDriver : ℕ → Delivery Parcel → Type 0
DeliveredByDriver n d = IsOfDriver n d.message

one_of_driver : (o : Option SeatSetup) (n count now : ℕ) (i : Issued) → All (DeliveredByDriver n) (request_at o (record { sender = n; count = count }) now i.asked)
one_of_driver None n count now i = All-nil (DeliveredByDriver n)
one_of_driver (Some seat) n count now i = All-cons (DeliveredByDriver n) _ [] refl (All-nil (DeliveredByDriver n))

pub all_of_driver : (seats : List SeatSetup) (n count now : ℕ) (xs : List Issued) → All (DeliveredByDriver n) (request_messages seats n count now xs)
all_of_driver seats n count now [] = All-nil (DeliveredByDriver n)
all_of_driver seats n count now (i ∷ rest) =
    All-append (DeliveredByDriver n) (request_at (slice_get seats i.seat) (record { sender = n; count = count }) now i.asked) (request_messages seats n (count + 1) now rest)
    (one_of_driver (slice_get seats i.seat) n count now i) (all_of_driver seats n (count + 1) now rest)
