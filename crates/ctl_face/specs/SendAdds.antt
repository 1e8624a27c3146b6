-- What a send adds, where it ends without a fault: one copy for each receiver that the message names, in increasing number, with the
-- sender's next numbers, and to the sender's counts as many messages, copies and, where the network has jitter, words. A copy on a
-- network is in the buffer that takes this network's messages at its receiver. It arrives after the latency, the path and the jitter
-- that was drawn for it, or, where the network keeps order, with the one sent last from here to there if that arrives later. Each takes
-- a slot where its buffer has a size. So it is with a copy in an own buffer, which has neither path nor jitter. Where order is kept the
-- last arrivals are written down for later sends, and copies to the sender come into its own inbox, with their marks. `Send.antt` says
-- how each comes about.
-- That the path to oneself is 0 is no matter here: the routes have it so.
use Rattle.std.specs.Prelude.{◌≡◌, ◌<◌, ◌+◌, ◌-◌, ◌==◌, ℕ, Bool, true, false, List, [], ◌∷◌, Some, max, map, filter, length, if◌then◌else◌}
use Rattle.std.specs.List.{All, fold}
use Rattle.ruby_value.specs.declared.setup.BufferPlace.TheVariants as place
use Rattle.ruby_value.specs.declared.setup.BufferPlace.{BufferPlace}
use Rattle.ruby_value.specs.declared.value.Value.{Value}
use Rattle.ruby_value.specs.declared.message.Delivery.{Delivery}
use Rattle.ruby_value.specs.declared.message.Message.{Message}
use Rattle.ruby_value.specs.Prelude.{numbers_from}
use Rattle.ctl_face.specs.declared.parcel.Lent.{Lent}
use Rattle.ctl_face.specs.declared.routes.Routes.{Routes}
use Rattle.ctl_face.specs.Ctl.{Mail}
use Rattle.ctl_face.specs.Lasts.{last_at, lasts_on}
use Rattle.ctl_face.specs.LocalView.{Actor}
use Rattle.ctl_face.specs.Mailing.{mail_with_arrival}
use Rattle.ctl_face.specs.Routing.{is_ordered, path_to, receiving_buffer}
use Rattle.ctl_face.specs.Send.{Sending, has_jitter, receivers_of}
use Rattle.ctl_face.specs.Slots.{lent_after}
use Rattle.pcg_words.specs.Prelude.{below}

-- when a copy arrives that is due at this cycle: where order is kept, not before the last one
abbrev pub arrival_after : (ordered : Bool) (due last : ℕ) → ℕ
arrival_after ordered due last = if ordered then max due last else due

-- the latest of a cycle and of the arrivals of copies
abbrev pub latest : ℕ → List (Delivery Message) → ℕ
latest cycle copies = fold (λ (c : ℕ) (copy : Delivery Message). max c copy.message.arrival) cycle copies

abbrev pub copies_to : ℕ → List (Delivery Message) → List (Delivery Message)
copies_to receiver copies = filter (λ (c : Delivery Message). c.receiver == receiver) copies

-- the jitter of one of the copies that a send makes from this mail: of the word that was drawn for it
abbrev pub jitter_of : Actor → Mail → Delivery Message → ℕ
jitter_of actor mail c =
    if has_jitter actor then below actor.seed actor.me (mail.drawn + (c.message.number.count - mail.sent)) (actor.routes.jitter + 1) else 0

-- when one of the copies that a send on a network makes from this mail arrives; it is the only one to its receiver
abbrev pub arrival_of : Actor → Mail → (network latency now : ℕ) → Delivery Message → ℕ
arrival_of actor mail network latency now c =
    arrival_after (is_ordered actor.routes network)
    (now + latency + path_to actor.routes actor.me c.receiver + jitter_of actor mail c)
    (last_at (lasts_on mail.network_last network) c.receiver)

pub record IsNetworkCopy (actor : Actor) (mail : Mail) (network latency : ℕ) (fields : List Value) (now : ℕ) (c : Delivery Message) : Type 0 where
  pub buffer : receiving_buffer actor.routes c.receiver network ≡ Some c.message.buffer
  pub fields_sent : c.message.fields ≡ fields
  pub not_recycled : c.message.recycled ≡ false
  pub arrival : c.message.arrival ≡ arrival_of actor mail network latency now c

pub record IsOwnCopy (ordered : Bool) (mail : Mail) (own latency : ℕ) (fields : List Value) (now : ℕ) (c : Delivery Message) : Type 0 where
  pub buffer : c.message.buffer ≡ own
  pub fields_sent : c.message.fields ≡ fields
  pub not_recycled : c.message.recycled ≡ false
  pub arrival : c.message.arrival ≡ arrival_after ordered (now + latency) (last_at mail.local_last own)

-- the sender's mail with the copies to itself, which come in as other messages do
abbrev pub mail_with_own : (me : ℕ) → Mail → List (Delivery Message) → Mail
mail_with_own me mail copies = fold (λ (m : Mail) (c : Delivery Message). mail_with_arrival m c.message) mail (copies_to me copies)

-- the slots in use after copies
abbrev pub lent_after_all : Routes → List Lent → List (Delivery Message) → List Lent
lent_after_all routes lent copies =
    fold (λ (l : List Lent) (c : Delivery Message). lent_after routes l c.receiver c.message.buffer) lent copies

-- copies for these receivers, each of which is as P says, and what they add to the counts and to the sender's inbox and marks
pub record AddsCopies (actor : Actor) (mail : Mail) (receivers : List ℕ) (words : ℕ) (P : Delivery Message → Type 0) (s : Sending) : Type 0 where
  pub to : map (λ (c : Delivery Message). c.receiver) s.copies ≡ receivers
  pub numbers : map (λ (c : Delivery Message). c.message.number) s.copies ≡ numbers_from actor.me mail.sent (length receivers)
  pub each : All P s.copies
  pub sent : s.mail.sent ≡ mail.sent + length receivers
  pub copies_counted : s.mail.copies ≡ mail.copies + length receivers
  pub drawn : s.mail.drawn ≡ mail.drawn + words
  pub inbox : s.mail.inbox ≡ (mail_with_own actor.me mail s.copies).inbox
  pub marks : s.mail.marks ≡ (mail_with_own actor.me mail s.copies).marks
  pub lent : s.mail.lent ≡ lent_after_all actor.routes mail.lent s.copies
  pub credits : s.mail.credits ≡ mail.credits

-- the last arrivals on a network after a send there: where it keeps order, the latest at each receiver
pub record NetworkLasts (ordered : Bool) (network : ℕ) (mail after : Mail) (copies : List (Delivery Message)) : Type 0 where
  pub in_order :
      ordered ≡ true → network < length mail.network_last → (receiver : ℕ)
      → last_at (lasts_on after.network_last network) receiver
      ≡ latest (last_at (lasts_on mail.network_last network) receiver) (copies_to receiver copies)
  pub other_networks :
      (other : ℕ) → ¬ (other ≡ network) → lasts_on after.network_last other ≡ lasts_on mail.network_last other
  pub unordered : ordered ≡ false → after.network_last ≡ mail.network_last
  pub own_buffers : after.local_last ≡ mail.local_last

-- the last arrivals in own buffers after a send in one of them: if that keeps order, the latest there
pub record OwnLasts (ordered : Bool) (own : ℕ) (mail after : Mail) (copies : List (Delivery Message)) : Type 0 where
  pub in_order :
      ordered ≡ true → last_at after.local_last own ≡ latest (last_at mail.local_last own) copies
  pub other_buffers :
      (other : ℕ) → ¬ (other ≡ own) → last_at after.local_last other ≡ last_at mail.local_last other
  pub unordered : ordered ≡ false → after.local_last ≡ mail.local_last
  pub networks : after.network_last ≡ mail.network_last

-- by where the messages of the buffer go
abbrev pub SendAdds : BufferPlace → Bool → Actor → Mail → ℕ → ℕ → List Value → ℕ → Sending → Type 0
SendAdds place.Local ordered actor mail buffer latency fields now s =
    AddsCopies actor mail (actor.me ∷ []) 0 (IsOwnCopy ordered mail buffer latency fields now) s
    × OwnLasts ordered buffer mail s.mail s.copies
SendAdds (place.To network destination) ordered actor mail buffer latency fields now s =
    let receivers = receivers_of destination fields in
    AddsCopies actor mail receivers (if has_jitter actor then length receivers else 0)
    (IsNetworkCopy actor mail network latency fields now) s
    × NetworkLasts (is_ordered actor.routes network) network mail s.mail s.copies
SendAdds (place.From network) ordered actor mail buffer latency fields now s =
    AddsCopies actor mail [] 0 (λ c. ⊥) s × (s.mail ≡ mail)
