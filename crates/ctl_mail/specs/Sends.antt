-- A send in a mail and its acts: the sender's mail after it; a note of each copy follows those that were sent before, and the
-- copies for others follow those that were posted before.
use Rattle.std.specs.Prelude.{◌≡◌, ◌+◌, ◌*◌, ◌^◌, ◌<◌, ◌≤◌, ◌++◌, ℕ, ℤ, Bool, Option, None, Some, Result, Ok, Err, List, map, not, nat_lt, is_some, true, false, if◌then◌else◌}
use Rattle.std.specs.List.{All, filter, fold}
use Rattle.ruby_value.specs.declared.fault.Fault.{Fault}
use Rattle.ruby_value.specs.declared.setup.MachineSetup.{MachineSetup}
use Rattle.ruby_value.specs.declared.value.Value.{Value}
use Rattle.ctl_face.specs.declared.parcel.Lent.{Lent}
use Rattle.ctl_face.specs.Prelude.{sent_of, InboxMessage, Mail, parcels_for_others, Actor, Sending, copy_limit, has_jitter, no_copies, send, with_network_copy, receiving_buffer}
use Rattle.ctl_mail.specs.declared.changes.MailChanges.{MailChanges}
use Rattle.ctl_mail.specs.declared.store.MailStore.{MailStore}
use Rattle.ctl_mail.specs.MailOf.{mail_of}
use Rattle.ctl_mail.specs.MailView.{MailView}
use Rattle.ctl_mail.specs.Told.{changed_mail, changed_view, told_by}
use Rattle.ctl_face.specs.declared.routes.Routes.{Routes}
use Rattle.pcg_words.specs.Prelude.{below, Position}

-- the mail, and what was done in it, as the changes of a scan leave it
abbrev pub mail_after : MailStore → MailChanges → Mail
mail_after store changes = changed_mail (mail_of store) (told_by changes)

abbrev pub view_after : MailStore → MailChanges → MailView
view_after store changes = changed_view (mail_of store) (told_by changes)

abbrev pub view_with_copies : ℕ → MailView → Sending → MailView
view_with_copies me v s = record {
  mail = s.mail;
  acts = record v.acts { sent = v.acts.sent ++ map sent_of s.copies; posted = v.acts.posted ++ parcels_for_others me s.copies };
}

abbrev pub view_after_sending : ℕ → MailView → Result Sending Fault → Result MailView Fault
view_after_sending me v (Ok s) = Ok (view_with_copies me v s)
view_after_sending me v (Err fault) = Err fault

abbrev pub view_sent : MailView → MachineSetup → Actor → ℕ → ℤ → List Value → ℕ → Result MailView Fault
view_sent v machine actor buffer latency fields now =
    view_after_sending actor.me v (send machine actor v.mail buffer latency fields now)

-- with one copy to a receiver on a network
abbrev pub view_with_network_copy : Actor → ℕ → ℕ → List Value → ℕ → MailView → ℕ → MailView
view_with_network_copy actor network latency fields now v receiver =
    view_with_copies actor.me v (with_network_copy actor network latency fields now (no_copies v.mail) receiver)

-- the numbers of the controller's own messages are some that it has given
abbrev pub OwnAreBelow : ℕ → Mail → Type 0
OwnAreBelow me mail = All (λ (o : InboxMessage). o.message.number.sender ≡ me → o.message.number.count < mail.sent) mail.inbox

-- the controller may send so many copies more in the cycle
pub record MaySend (me now copies : ℕ) (mail : Mail) : Type 0 where
  pub own : OwnAreBelow me mail
  pub copies_left : mail.copies + copies ≤ copy_limit
  pub sent : mail.sent ≤ copy_limit * now + mail.copies
  pub drawn : mail.drawn ≤ copy_limit * now + mail.copies
  pub lent : All (λ (l : Lent). l.count ≤ mail.sent) mail.lent

-- where words are drawn, they are those of the controller's stream from the next one on
abbrev pub AreNext : Actor → ℕ → Option Position → Type 0
AreNext actor drawn None = has_jitter actor ≡ false
AreNext actor drawn (Some p) = (has_jitter actor ≡ true) × (p ≡ record { seed = actor.seed; stream = actor.me; drawn = drawn })

-- the jitter for which the next word is drawn, where there is any, and how many are drawn then
abbrev pub jitter_at : Actor → ℕ → ℕ
jitter_at actor drawn = if has_jitter actor then below actor.seed actor.me drawn (actor.routes.jitter + 1) else 0

abbrev pub drawn_after : Actor → ℕ → ℕ
drawn_after actor drawn = if has_jitter actor then drawn + 1 else drawn

abbrev pub actor_of : ℕ → ℕ → Routes → Actor
actor_of me seed routes = record { me = me; seed = seed; routes = routes }

-- the receivers of a send that aren't done
abbrev pub members_from : ℕ → List ℕ → List ℕ
members_from from members = filter (λ o. not (nat_lt o from)) members

-- there is a number after each
abbrev pub HaveNext : List ℕ → Type 0
HaveNext members = All (λ r. r + 1 < 2 ^ 32) members

abbrev pub is_routed : Routes → ℕ → ℕ → Bool
is_routed routes network receiver = is_some (receiving_buffer routes receiver network)

-- the copies to these receivers on a network, whatever hinders a send
abbrev pub copies_to_all : Actor → ℕ → ℕ → List Value → ℕ → Mail → List ℕ → Sending
copies_to_all actor network latency fields now mail members =
    fold (with_network_copy actor network latency fields now) (no_copies mail) members
