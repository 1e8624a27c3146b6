-- The acts of a scan on mail in their order, and what is kept beside them: how many there are of some sorts, and the last arrivals that
-- they write on networks, each once, in the order of networks and then receivers.
use Rattle.std.specs.Prelude.{◌≡◌, ◌+◌, ◌==◌, ◌&&◌, ℕ, Bool, true, false, Option, None, Some, List, if◌then◌else◌}
use Rattle.std.specs.List.{AllPairs, fold}
use Rattle.ruby_value.specs.declared.message.MsgNo.{MsgNo}
use Rattle.ruby_value.specs.Prelude.{IsBefore, inserted, number_before, same_number}
use Rattle.ctl_mail.specs.declared.act.MailAct.{MailAct}
use Rattle.ctl_mail.specs.declared.act.MailAct.TheVariants.{Arrive, Credit, Lend, LocalLast, NetworkLast, Stall, Wake, WakeAll}
use Rattle.ctl_mail.specs.declared.act_counts.ActCounts.{ActCounts}
use Rattle.ctl_mail.specs.declared.last_arrivals.LastArrival.{LastArrival}

abbrev pub is_stall : MailAct → Bool
is_stall (Stall buffer line) = true
is_stall act = false

abbrev pub is_wake : MailAct → Bool
is_wake (Wake line) = true
is_wake WakeAll = true
is_wake act = false

-- the act writes something for which there must be a place, beside a mark
abbrev pub is_placed : MailAct → Bool
is_placed (Arrive m) = true
is_placed (NetworkLast network receiver arrival) = true
is_placed (LocalLast buffer arrival) = true
is_placed (Lend receiver buffer) = true
is_placed (Credit c) = true
is_placed act = false

abbrev pub is_local_last : MailAct → Bool
is_local_last (LocalLast buffer arrival) = true
is_local_last act = false

abbrev pub counted_if : Bool → ℕ → ℕ
counted_if so count = if so then count + 1 else count

-- the counts with one act more
abbrev pub counts_with : ActCounts → MailAct → ActCounts
counts_with counts act = record {
  stalls = counted_if (is_stall act) counts.stalls;
  wakes = counted_if (is_wake act) counts.wakes;
  placed = counted_if (is_placed act) counts.placed;
  locals = counted_if (is_local_last act) counts.locals;
}

abbrev pub no_counts : ActCounts
no_counts = record { stalls = 0; wakes = 0; placed = 0; locals = 0 }

-- a last arrival, or the one that the act writes there
abbrev pub newer_network : (network receiver : ℕ) → Option ℕ → MailAct → Option ℕ
newer_network network receiver found (NetworkLast other to arrival) = if other == network && to == receiver then Some arrival else found
newer_network network receiver found _ = found

abbrev pub newer_local : (buffer : ℕ) → Option ℕ → MailAct → Option ℕ
newer_local buffer found (LocalLast other arrival) = if other == buffer then Some arrival else found
newer_local buffer found _ = found

-- Networks, and then receivers, are in the order in which senders, and then counts, are in numbers of messages.
abbrev pub pair_of : (network receiver : ℕ) → MsgNo
pair_of network receiver = record { sender = network; count = receiver }

abbrev pub place_of : LastArrival → MsgNo
place_of l = pair_of l.network l.receiver

abbrev pub ArrivalsRise : List LastArrival → Type 0
ArrivalsRise arrivals = AllPairs (λ (a b : LastArrival). IsBefore (place_of a) (place_of b)) arrivals

-- with one that is written, in the place of an earlier one at its receiver
unfoldable pub with_written : List LastArrival → LastArrival → List LastArrival
with_written arrivals l = inserted (λ (a b : LastArrival). number_before (place_of a) (place_of b)) arrivals l

-- a last arrival, or the one that is kept there
abbrev pub newer_kept : (network receiver : ℕ) → Option ℕ → LastArrival → Option ℕ
newer_kept network receiver found l = if same_number (place_of l) (pair_of network receiver) then Some l.arrival else found

unfoldable pub kept_at : (network receiver : ℕ) → List LastArrival → Option ℕ
kept_at network receiver arrivals = fold (newer_kept network receiver) None arrivals

-- what is kept beside these acts is so
pub record IsLog (acts : List MailAct) (counts : ActCounts) (arrivals : List LastArrival) : Type 0 where
  pub counted : counts ≡ fold counts_with no_counts acts
  pub rise : ArrivalsRise arrivals
  pub written : (network receiver : ℕ) → kept_at network receiver arrivals ≡ fold (newer_network network receiver) None acts
