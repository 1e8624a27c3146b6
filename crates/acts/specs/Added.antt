-- Messages, credits and marks that come to a controller while a scan of it goes on, and what they are to that scan: nothing, where the
-- messages and credits arrive later, and the messages are other actors' and have numbers that aren't in its inbox. They come in as they
-- arrive, so they wait under no line.
use Rattle.std.specs.Prelude.{◌≡◌, ◌<◌, ℕ, List, Result, Ok, Err}
use Rattle.std.specs.List.{All, AllPairs, fold}
use Rattle.ruby_value.specs.declared.fault.Fault.{Fault}
use Rattle.ruby_value.specs.declared.message.Message.{Message}
use Rattle.ruby_value.specs.Prelude.{with_mark}
use Rattle.ctl_face.specs.declared.parcel.Credit.{Credit}
use Rattle.ctl_face.specs.Prelude.{with_credit, Ctl, InboxMessage, Mail, LocalView, incoming_message}
use Rattle.ctl_face.specs.Inbox.{with_message}
use Rattle.acts.specs.Done.{Done}

pub record Added : Type 0 where
  pub messages : List Message
  pub credits : List Credit
  pub marks : List ℕ

abbrev pub mail_with : Added → Mail → Mail
mail_with more mail = record mail {
  inbox = fold (λ inbox (m : Message). with_message inbox (incoming_message m)) mail.inbox more.messages;
  marks = fold with_mark mail.marks more.marks;
  credits = fold with_credit mail.credits more.credits;
}

abbrev pub ctl_with : Added → Ctl → Ctl
ctl_with more ctl = record ctl { mail = mail_with more ctl.mail }

-- the local of a scan of the controller with these, which then began with them
abbrev pub with_added : Added → LocalView → LocalView
with_added more v = record v { start = ctl_with more v.start; ctl = ctl_with more v.ctl }

pub record IsNew (me now : ℕ) (inbox : List InboxMessage) (m : Message) : Type 0 where
  pub later : now < m.arrival
  pub other : ¬ (m.number.sender ≡ me)
  pub unknown : All (λ (o : InboxMessage). ¬ (o.message.number ≡ m.number)) inbox

-- of the inbox that the scan began with
pub record AreNew (v : LocalView) (more : Added) : Type 0 where
  pub each : All (IsNew v.actor.me v.now v.start.mail.inbox) more.messages
  pub credits_later : All (λ (c : Credit). v.now < c.arrival) more.credits
  pub differ : AllPairs (λ (a b : Message). ¬ (a.number ≡ b.number)) more.messages

-- what a body comes to, with these added to the local that it leaves
abbrev pub after_adding : {A : Type 0} → Added → Result (Done A) Fault → Result (Done A) Fault
after_adding more (Ok d) = Ok (record { value = d.value; view = with_added more d.view })
after_adding more (Err f) = Err f
