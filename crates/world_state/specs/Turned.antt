-- What a turn at which no controller has stopped makes of a world's data, in two steps. First the driver acts: the sequencers of its
-- seats are as it leaves them, and the messages of its requests come to their receivers. Then the cycle ends: a verdict stands, or the
-- run goes on at its next cycle, in which nobody is finished. Where nobody is held, it doesn't matter which controller is handed in as
-- the held one, so each condition is over all of them. The messages in inboxes are those that were sent and not consumed.
use Rattle.std.specs.Prelude.{◌≡◌, ◌+◌, ◌*◌, ◌-◌, ◌<◌, ◌≤◌, ◌^◌, ℕ, Option, None, Some, List, [], length, map}
use Rattle.std.specs.List.{All, AllPairs, flat_map}
use Rattle.ruby_value.specs.declared.fault.Finding.{Finding}
use Rattle.ruby_value.specs.declared.message.Delivery.{Delivery}
use Rattle.ctl_face.specs.declared.parcel.Parcel.{Parcel}
use Rattle.ruby_value.specs.declared.message.MsgNo.{MsgNo}
use Rattle.run_journal.specs.declared.entry.Entry.{Entry}
use Rattle.run_journal.specs.declared.entry.Entry.TheVariants.{Turned}
use Rattle.run_journal.specs.declared.event.Event.TheVariants.{Turn}
use Rattle.run_journal.specs.declared.verdict.Verdict.{Verdict}
use Rattle.protocol_runs.specs.Prelude.{consumed_numbers, parcel_numbers, sent_numbers, verdict_after, request_messages, seats_in}
use Rattle.protocol_runs.specs.World as runs
use Rattle.ctl_face.specs.Prelude.{Ctl}
use Rattle.sequencer.specs.Prelude.{Drive, after_drive, FitSeats, Seat, Seating}
use Rattle.world_state.specs.Arrivals.{delivered}
use Rattle.world_state.specs.Cycle.{begun_at, next_of}
use Rattle.world_state.specs.Places.{IsHome, made_in, places_with}
use Rattle.world_state.specs.declared.seat.SeatAt.{SeatAt}
use Rattle.world_state.specs.Seated.{AreApart, IsHomeIn, controllers_in, seated, setups_in}
use Rattle.world_state.specs.declared.state.State.{State}
use Rattle.world_state.specs.Steps.{Writes}

-- how many messages are in inboxes
abbrev pub messages_in : List Entry → ℕ
messages_in journal = length (sent_numbers journal) - length (consumed_numbers journal)

abbrev pub numbers_of : List (Delivery Parcel) → List MsgNo
numbers_of requests = flat_map (λ (r : Delivery Parcel). parcel_numbers r.message) requests

module _ {D : Type 0} (seats : List SeatAt) where
  -- the seats before anything was issued, and the requests of what a driver does at them as messages
  abbrev pub seating_in : Ctl → State D → Seating
  seating_in held st = record { seats = seats_in (setups_in seats) (controllers_in (places_with held st.places.items)); issued = [] }

  abbrev pub requests_in : State D → Drive D → List (Delivery Parcel)
  requests_in st d = request_messages (setups_in seats) (length st.places.items) st.issued st.now d.issued

  -- the places with the sequencers of the seats as the driver has left them
  abbrev pub seated_in : Ctl → State D → Drive D → List (runs.Place Ctl)
  seated_in held st d = seated seats (places_with held st.places.items) (after_drive (seating_in held st) d).seats

  -- What a turn finds in the data: a cycle of a run; nobody is held; the seats are at places that are there, no two at one; they fit
  -- the driver; and the driver has issued no more requests than 500,000 at each of a million turns.
  pub record IsReady (least : D → ℕ) (st : State D) : Type 0 where
    pub cycle : st.now ≤ 10 ^ 12
    pub controllers : length st.places.items < 2 ^ 32
    pub home : All IsHome st.places.items
    pub seats_home : All (λ (a : SeatAt). IsHomeIn (made_in st.places.items) a.controller) seats
    pub apart : AllPairs AreApart seats
    pub few : length seats < 2 ^ 32
    pub issued : st.issued ≤ 500000 * 1000000
    pub fit : (held : Ctl) → FitSeats (least st.driver) (seating_in held st).seats

module _ {D : Type 0} (drive : D → List Seat → ℕ → Drive D) (seats : List SeatAt) where
  -- what the driver does
  abbrev pub IsActIn : State D → Drive D → Type 0
  IsActIn st d = (held : Ctl) → d ≡ drive st.driver (seating_in seats held st).seats st.now

  -- the driver has acted so, and nothing is written yet
  pub record IsDriven (d : Drive D) (old new : State D) : Type 0 where
    pub act : IsActIn old d
    pub now : new.now ≡ old.now
    pub places : (held : Ctl) → places_with held new.places.items ≡ delivered (seated_in seats held old d) (requests_in seats old d)
    pub made : made_in new.places.items ≡ made_in old.places.items
    pub driver : new.driver ≡ d.driver
    pub issued : new.issued ≡ old.issued + length (requests_in seats old d)
    pub next : new.next ≡ d.next
    pub verdict : new.verdict ≡ old.verdict
    pub history : new.book.history ≡ old.book.history
    pub journal : new.book.journal ≡ old.book.journal

module _ {D : Type 0} where
  abbrev pub next_in : State D → Option ℕ
  next_in st = next_of st.now st.next st.places.items

  -- the verdict, where the driver has found this and issued so many requests, which the journal doesn't have yet
  abbrev pub verdict_in : (cycles : ℕ) → State D → Option Finding → (issued : ℕ) → Option Verdict
  verdict_in cycles st finding issued =
      verdict_after st.now cycles (next_in st) finding (length st.book.journal + 1) (messages_in st.book.journal + issued)

  -- the data but for the cycle, the controllers, the verdict and the book
  pub record IsSameDriver (old new : State D) : Type 0 where
    pub driver : new.driver ≡ old.driver
    pub issued : new.issued ≡ old.issued
    pub next : new.next ≡ old.next
    pub made : made_in new.places.items ≡ made_in old.places.items

  -- it is the same cycle, with this verdict
  pub record IsOver (verdict : Option Verdict) (old new : State D) : Type 0 where
    pub now : new.now ≡ old.now
    pub places : (held : Ctl) → places_with held new.places.items ≡ places_with held old.places.items
    pub verdict_is : new.verdict ≡ verdict

  -- another cycle has begun
  pub record IsBegun (now : ℕ) (old new : State D) : Type 0 where
    pub now_is : new.now ≡ now
    pub places : (held : Ctl) → places_with held new.places.items ≡ map (begun_at now) (places_with held old.places.items)
    pub verdict : new.verdict ≡ old.verdict

  -- with this verdict, or at this next cycle; where neither is there, which never is, all stays
  abbrev pub GoesOn : Option ℕ → Option Verdict → State D → State D → Type 0
  GoesOn next (Some v) old new = IsOver (Some v) old new
  GoesOn None None old new = IsOver old.verdict old new
  GoesOn (Some now) None old new = IsBegun now old new

  -- the cycle has ended with this verdict, where these are the numbers of the requests and the driver has found this
  pub record IsCycleEnded (worker cycles : ℕ) (numbers : List MsgNo) (finding : Option Finding) (verdict : Option Verdict) (old new : State D) : Type 0 where
    pub verdict_is : verdict ≡ verdict_in cycles old finding (length numbers)
    pub same : IsSameDriver old new
    pub goes : GoesOn (next_in old) verdict old new
    pub writes : Writes old new (Turn worker) (Some (Turned old.now numbers finding verdict))

-- the driver has acted so, and the cycle has ended with this verdict
pub record IsTurned {D : Type 0} (drive : D → List Seat → ℕ → Drive D) (cycles : ℕ) (seats : List SeatAt) (worker : ℕ) (verdict : Option Verdict) (old new : State D) : Type 0 where
  pub did : Drive D
  pub mid : State D
  pub driven : IsDriven drive seats did old mid
  pub ended : IsCycleEnded worker cycles (numbers_of (requests_in seats old did)) did.finding verdict mid new
