-- The mail of a controller as it is kept: what its queues, its stalled messages, its marks, its counts, its last arrivals, its slots
-- in use and its credits are as one abstract mail.
use Rattle.std.specs.Prelude.{◌≢◌, ℕ, length, map}
use Rattle.std.specs.List.{All}
use Rattle.std.specs.List.Sorted.{IsStrictlyIncreasing}
use Rattle.ruby_value.specs.Prelude.{Roomy}
use Rattle.ruby_value.specs.declared.message.MsgNo.{MsgNo}
use Rattle.ctl_face.specs.Prelude.{InboxMessage, Mail, Lasts}
use Rattle.ctl_mail.specs.declared.store.MailStore.{MailStore}
use Rattle.ctl_mail.specs.Credits.{CreditsAscend}
use Rattle.ctl_mail.specs.Inbox.{Holds, inbox_of}

abbrev pub mail_of : MailStore → Mail
mail_of store = record {
  inbox = inbox_of store.buffers.items store.stalls.kept;
  marks = store.marks.items;
  sent = store.sent;
  drawn = store.drawn;
  copies = store.copies;
  network_last = map (λ (lasts : Roomy Lasts). lasts.kept) store.network_last.items;
  local_last = store.local_last.kept;
  lent = store.lent.items;
  credits = store.credits.items;
}

-- what holds of each mail that is kept
pub record IsMail (store : MailStore) : Type 0 where
  pub holds : Holds store.buffers.items store.stalls.kept
  pub marks_ascend : IsStrictlyIncreasing store.marks.items
  pub credits_ascend : CreditsAscend store.credits.items

-- the number is none of the inbox's
abbrev pub IsNewIn : Mail → MsgNo → Type 0
IsNewIn mail number = All (λ (o : InboxMessage). o.message.number ≢ number) mail.inbox

-- how many buffers there are, by whose numbers messages go
abbrev pub buffer_count : MailStore → ℕ
buffer_count store = length store.buffers.items
