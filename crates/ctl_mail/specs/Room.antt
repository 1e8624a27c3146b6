-- The room that a mail has: for how many more messages, marks, last arrivals, slots in use and credits.
use Rattle.std.specs.Prelude.{◌+◌, ◌-◌, ◌≤◌, ◌<◌, ℕ, List, IfSome, count_by, length, slice_get, vec_capacity, vec_len}
use Rattle.std.specs.List.{All}
use Rattle.ruby_value.specs.Prelude.{Roomy}
use Rattle.ctl_face.specs.Prelude.{Lasts}
use Rattle.ctl_mail.specs.declared.act.MailAct.{MailAct}
use Rattle.ctl_mail.specs.declared.act.MailAct.TheVariants.{Arrive, Credit, Lend, LocalLast, NetworkLast}
use Rattle.ctl_mail.specs.declared.store.MailStore.{MailStore}
use Rattle.ctl_mail.specs.Log.{is_stall, is_wake}
use Rattle.ctl_mail.specs.Queues.{room_of}
use Rattle.ctl_mail.specs.Told.{Told}

abbrev pub mark_room : MailStore → ℕ
mark_room store = vec_capacity store.marks - vec_len store.marks

abbrev pub lent_room : MailStore → ℕ
lent_room store = vec_capacity store.lent - vec_len store.lent

abbrev pub credit_room : MailStore → ℕ
credit_room store = vec_capacity store.credits - vec_len store.credits

-- each buffer has places for all messages that wait, and for so many more
abbrev pub HasPlacesToWake : MailStore → ℕ → Type 0
HasPlacesToWake store more = (buffer : ℕ) → buffer < length store.buffers.items → length store.stalls.kept + more ≤ room_of store.buffers.items buffer

-- the network, if there is one, has room for n more last arrivals
unfoldable pub HasLastRoom : List (Roomy Lasts) → ℕ → ℕ → Type 0
HasLastRoom networks network n = IfSome (slice_get networks network) (λ (lasts : Roomy Lasts). n ≤ lasts.room)

-- n more acts like this one have room for what they write beside marks, also where all that waits comes back to its buffers
abbrev pub HasPlaces : MailStore → ℕ → MailAct → Type 0
HasPlaces store n (Arrive m) = length store.stalls.kept + n ≤ room_of store.buffers.items m.buffer
HasPlaces store n (NetworkLast network receiver arrival) = HasLastRoom store.network_last.items network n
HasPlaces store n (LocalLast buffer arrival) = n ≤ store.local_last.room
HasPlaces store n (Lend receiver buffer) = n ≤ lent_room store
HasPlaces store n (Credit c) = n ≤ credit_room store
HasPlaces store n _ = Unit {0}

-- room for acts: for a mark each and one more, for each message that they stall, for what they write beside these, and where they
-- wake messages, places for those to come back to
pub record HasRoomToMake (store : MailStore) (log : List MailAct) : Type 0 where
  pub marks : length log < mark_room store
  pub waits : count_by is_stall log ≤ store.stalls.room
  pub places : All (HasPlaces store (length log)) log
  pub to_wake : 0 < count_by is_wake log → HasPlacesToWake store (length log)

-- room for the changes, and for one mark after them
abbrev pub HasRoom : MailStore → Told → Type 0
HasRoom store told = HasRoomToMake store told.log

-- how much room is lost at most, in each place; in a buffer, of that beyond what waits
pub record LosesPlaces (old new : MailStore) (less : ℕ) : Type 0 where
  pub buffers :
      (buffer : ℕ)
      → length new.stalls.kept + room_of old.buffers.items buffer ≤ length old.stalls.kept + room_of new.buffers.items buffer + less
  pub networks : (network n : ℕ) → HasLastRoom old.network_last.items network (n + less) → HasLastRoom new.network_last.items network n
  pub locals : old.local_last.room ≤ new.local_last.room + less
  pub lent : lent_room old ≤ lent_room new + less
  pub credits : credit_room old ≤ credit_room new + less

-- room for so many parcels, be they messages in one buffer or credits, each with its mark, and for one mark beside them
pub record HasRoomFor (store : MailStore) (parcels : ℕ) : Type 0 where
  pub buffers : (buffer : ℕ) → buffer < length store.buffers.items → parcels ≤ room_of store.buffers.items buffer
  pub credits : parcels ≤ credit_room store
  pub marks : parcels < mark_room store

-- no room is lost: for a mark, for parcels that arrive, and for the changes of any scan
pub record KeepsRoom (old new : MailStore) : Type 0 where
  pub marks : mark_room old ≤ mark_room new
  pub parcels : (n : ℕ) → HasRoomFor old n → HasRoomFor new n
  pub changes : (told : Told) → HasRoom old told → HasRoom new told
