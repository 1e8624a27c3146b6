-- What happens to a controller between its scans: a message of another actor or a credit arrives, a mark is set, a cycle begins, a
-- transition has fired, the controller stops, a request comes into its sequencer, and a finished answer is taken from there.
-- A cycle begins without the marks before it, with nothing counted in it yet, and with the slots free again whose credits have
-- arrived by then. A controller without a sequencer takes no request and has no answer. Requests and answers are gem5's sequencers';
-- marks, counts, credits and stops are this project's own.
use Rattle.std.specs.Prelude.{ℕ, ◌+◌, true, List, Option}
use Rattle.std.specs.List.{fold}
use Rattle.std.specs.Option.{option_and_then, option_map}
use Rattle.ruby_value.specs.declared.asked.Answer.{Answer}
use Rattle.ruby_value.specs.declared.asked.Asked.{Asked}
use Rattle.ruby_value.specs.declared.message.Message.{Message}
use Rattle.ruby_value.specs.Prelude.{marks_from}
use Rattle.ruby_value.specs.Requests as requests
use Rattle.ctl_face.specs.declared.parcel.Parcel.{Parcel}
use Rattle.ctl_face.specs.declared.parcel.Parcel.TheVariants as parcel
use Rattle.ctl_face.specs.Credits.{credits_from, lent_from, with_credit}
use Rattle.ctl_face.specs.Ctl.{Ctl, Mail}
use Rattle.ctl_face.specs.Mailing.{mail_with_mark, mail_with_message}

-- a message in the inbox, and a cycle at which the controller must wake; an arrival is both
abbrev pub with_message : Ctl → Message → Ctl
with_message ctl m = record ctl { mail = mail_with_message ctl.mail m }

abbrev pub with_wake_up : Ctl → ℕ → Ctl
with_wake_up ctl cycle = record ctl { mail = mail_with_mark ctl.mail cycle }

abbrev pub with_arrival : Ctl → Message → Ctl
with_arrival ctl m = with_wake_up (with_message ctl m) m.arrival

-- what comes from another controller, and when it arrives
abbrev pub with_parcel : Ctl → Parcel → Ctl
with_parcel ctl (parcel.Message m) = with_message ctl m
with_parcel ctl (parcel.Credit c) = record ctl { mail = record ctl.mail { credits = with_credit ctl.mail.credits c } }

abbrev pub parcel_arrival : Parcel → ℕ
parcel_arrival (parcel.Message m) = m.arrival
parcel_arrival (parcel.Credit c) = c.arrival

abbrev pub with_parcel_arrival : Ctl → Parcel → Ctl
with_parcel_arrival ctl p = with_wake_up (with_parcel ctl p) (parcel_arrival p)

-- as the cycle begins
abbrev pub mail_at_cycle : Mail → ℕ → Mail
mail_at_cycle mail now = record mail {
  marks = marks_from now mail.marks;
  copies = 0;
  lent = lent_from now mail.credits mail.lent;
  credits = credits_from now mail.credits;
}

abbrev pub at_cycle : Ctl → ℕ → Ctl
at_cycle ctl now = record ctl { mail = mail_at_cycle ctl.mail now; fired = 0 }

-- one transition more has fired in this cycle
abbrev pub with_one_fired : Ctl → Ctl
with_one_fired ctl = record ctl { fired = ctl.fired + 1 }

abbrev pub with_stop : Ctl → Ctl
with_stop ctl = record ctl { stopped = true }

-- the request that is outstanding for a line, of which there is one at most
abbrev pub outstanding_for : Ctl → ℕ → Option Asked
outstanding_for ctl line = option_and_then (λ r. requests.request_for r line) ctl.sequencer

-- the controller with the requests of its sequencer changed
abbrev pub with_requests : Ctl → (requests.Requests → requests.Requests) → Ctl
with_requests ctl change = record ctl { sequencer = option_map change ctl.sequencer }

-- a request of a line that has none outstanding goes under its line
abbrev pub with_request : Ctl → Asked → Ctl
with_request ctl asked = with_requests ctl (λ r. requests.with_request r asked)

-- the answer that is taken first, which is one of the least line, and of that line's the one that was finished first
abbrev pub first_answer : Ctl → Option Answer
first_answer ctl = option_and_then (λ (r : requests.Requests). requests.first_of r.finished) ctl.sequencer

abbrev pub without_first_answer : Ctl → Ctl
without_first_answer ctl = with_requests ctl requests.without_first_answer

-- what a driver does to one controller at its turn: it takes answers, and then issues requests
pub data DriverAct : Type 0 where
  Takes : DriverAct
  Issues : Asked → DriverAct

abbrev pub after_driver_act : Ctl → DriverAct → Ctl
after_driver_act ctl Takes = without_first_answer ctl
after_driver_act ctl (Issues asked) = with_request ctl asked

-- what is issued is a request
abbrev pub IsDriverAct : DriverAct → Type 0
IsDriverAct Takes = Unit {0}
IsDriverAct (Issues asked) = requests.IsRequest asked

abbrev pub after_driver_acts : Ctl → List DriverAct → Ctl
after_driver_acts ctl acts = fold after_driver_act ctl acts
