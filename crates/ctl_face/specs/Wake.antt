-- Waking the messages that wait under a line, which SLICC writes `wakeUpBuffers`, or all that wait: they are back in
-- their buffers with their old arrivals and numbers, and their numbers are among the woken ones, in increasing order.
-- That arrival and number stay is this project's own rule. Waking sets no mark.
use Rattle.std.specs.Prelude.{ℕ, Bool, List, false, Option, None, Some, ◌++◌, ◌==◌, map, is_some, if◌then◌else◌}
use Rattle.std.specs.List.{filter}
use Rattle.ruby_value.specs.declared.message.MsgNo.{MsgNo}
use Rattle.ctl_face.specs.Ctl.{InboxMessage, Mail}
use Rattle.ctl_face.specs.LocalView.{LocalView}

abbrev pub is_under : ℕ → Option ℕ → Bool
is_under line None = false
is_under line (Some l) = l == line

-- the messages that pass the test wait no longer; the inbox has them in increasing number
abbrev pub message_waiting_no_longer : InboxMessage → InboxMessage
message_waiting_no_longer o = record o { waiting = None }

abbrev pub woken_mail : Mail → (InboxMessage → Bool) → Mail
woken_mail mail test = record mail { inbox = map (λ (o : InboxMessage). if test o then message_waiting_no_longer o else o) mail.inbox }

abbrev pub numbers_where : Mail → (InboxMessage → Bool) → List MsgNo
numbers_where mail test = map (λ (o : InboxMessage). o.message.number) (filter test mail.inbox)

abbrev pub with_woken : LocalView → (InboxMessage → Bool) → LocalView
with_woken v test = record v {
  ctl = record v.ctl { mail = woken_mail v.ctl.mail test };
  acts = record v.acts { woken = v.acts.woken ++ numbers_where v.ctl.mail test };
}

abbrev pub wake : LocalView → ℕ → LocalView
wake v line = with_woken v (λ (o : InboxMessage). is_under line o.waiting)

abbrev pub wake_all : LocalView → LocalView
wake_all v = with_woken v (λ (o : InboxMessage). is_some o.waiting)
