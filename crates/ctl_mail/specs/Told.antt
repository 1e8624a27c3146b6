-- The changes that a scan makes to mail, as plain data: the cycle, the counts that its next send goes on from, the acts on mail in
-- their order, what they did to messages, and where those wait that they have stalled or woken. The changed mail is the mail after
-- these acts, one after another.
use Rattle.std.specs.Prelude.{◌≡◌, ◌≢◌, ◌+◌, ◌^◌, ◌<◌, ◌≤◌, ◌⊎◌, ◌↔◌, ℕ, Bool, true, List, [], ◌∷◌, Option, None, Some, Result, Ok, Err, Contains, is_some, if◌then◌else◌}
use Rattle.std.specs.List.{All, fold}
use Rattle.std.specs.FinMap as finite
use Rattle.ruby_value.specs.declared.fault.Fault.{Fault}
use Rattle.ruby_value.specs.declared.message.MsgNo.{MsgNo}
use Rattle.stall_map.specs.declared.stalled.Stalled.{Stalled}
use Rattle.ctl_face.specs.declared.parcel.Lent.{Lent}
use Rattle.ctl_face.specs.Prelude.{Acts, AtFront, at_front, InboxMessage, Mail, NumbersAscend, with_last, with_lent, mail_with_mark, mail_with_arrival, mail_with_credit, front, popped_mail, mail_with_recycled, stalled_mail, is_under, woken_mail}
use Rattle.ctl_mail.specs.declared.act.MailAct.{MailAct}
use Rattle.ctl_mail.specs.declared.act.MailAct.TheVariants.{Arrive, Count, Credit, Lend, LocalLast, Mark, NetworkLast, Pop, Recycle, Stall, Wake, WakeAll}
use Rattle.ctl_mail.specs.declared.changes.MailChanges.{MailChanges}
use Rattle.ctl_mail.specs.declared.moves.Move.{Move}
use Rattle.ctl_mail.specs.declared.moves.Waking.{Waking}
use Rattle.ctl_mail.specs.declared.moves.Waking.TheVariants as waking
use Rattle.ctl_mail.specs.declared.sent.SendCounts.{SendCounts}
use Rattle.ctl_mail.specs.declared.store.MailStore.{MailStore}
use Rattle.ctl_mail.specs.Inbox.{Has, IsAt}
use Rattle.ctl_mail.specs.MailOf.{IsNewIn, mail_of}
use Rattle.ctl_mail.specs.MailView.{MailView}
use Rattle.ctl_mail.specs.Moves.{is_woken, waiting_after}
use Rattle.ctl_mail.specs.Queues.{Queues}

-- where there is no front there is no change
abbrev pub mail_at_front : Mail → Result AtFront Fault → Mail
mail_at_front mail (Ok a) = a.mail
mail_at_front mail (Err fault) = mail

-- with one copy more, for which a word may have been drawn
abbrev pub counted_mail : Mail → Bool → Mail
counted_mail mail drawn = record mail { sent = mail.sent + 1; drawn = if drawn then mail.drawn + 1 else mail.drawn; copies = mail.copies + 1 }

abbrev pub after_act : ℕ → Mail → MailAct → Mail
after_act now mail (Pop buffer) = mail_at_front mail (popped_mail mail buffer now)
after_act now mail (Recycle buffer arrival) = mail_at_front mail (at_front (mail_with_recycled mail arrival) (front mail buffer now))
after_act now mail (Mark cycle) = mail_with_mark mail cycle
after_act now mail (Stall buffer line) = mail_at_front mail (stalled_mail mail buffer line now)
after_act now mail (Wake line) = woken_mail mail (λ (o : InboxMessage). is_under line o.waiting)
after_act now mail WakeAll = woken_mail mail (λ (o : InboxMessage). is_some o.waiting)
after_act now mail (Arrive m) = mail_with_arrival mail m
after_act now mail (Count drawn) = counted_mail mail drawn
after_act now mail (NetworkLast network receiver arrival) = record mail { network_last = with_last mail.network_last network receiver arrival }
after_act now mail (LocalLast buffer arrival) = record mail { local_last = finite.insert mail.local_last buffer arrival }
after_act now mail (Lend receiver buffer) = record mail { lent = with_lent mail.lent receiver buffer }
after_act now mail (Credit c) = mail_with_credit mail c

unfoldable pub after_acts : ℕ → Mail → List MailAct → Mail
after_acts now mail acts = fold (after_act now) mail acts

pub record Told : Type 0 where
  pub cycle : ℕ
  pub counts : SendCounts
  pub log : List MailAct
  pub acts : Acts
  pub moves : List Move

-- the counts of a mail, as they are kept
abbrev pub counts_in : Mail → SendCounts
counts_in mail = record { sent = mail.sent; drawn = mail.drawn; copies = mail.copies }

abbrev pub told_by : MailChanges → Told
told_by changes = record {
  cycle = changes.cycle;
  counts = changes.counts;
  log = changes.log.kept;
  acts = record {
    consumed = changes.consumed.items;
    stalled = changes.stalled.items;
    woken = changes.woken.items;
    recycled = changes.recycled.items;
    sent = changes.sent.items;
    posted = changes.posted.items;
    again = changes.again;
  };
  moves = changes.moves.kept;
}

abbrev pub changed_mail : Mail → Told → Mail
changed_mail mail told = after_acts told.cycle mail told.log

abbrev pub changed_view : Mail → Told → MailView
changed_view mail told = record { mail = changed_mail mail told; acts = told.acts }

-- the message of this number is consumed, or arrives again in a later cycle
abbrev pub IsGone : Acts → MsgNo → Type 0
IsGone acts number = Contains acts.consumed number ⊎ Contains acts.recycled number

-- a message doesn't wait, and isn't gone, that waited so before the scan
pub record IsFreeNow (told : Told) (number : MsgNo) (before : Option ℕ) : Type 0 where
  pub back : waiting_after number told.moves before ≡ None
  pub not_gone : IsGone told.acts number → ⊥

-- a message is no longer ready that could be before the scan
abbrev pub IsOut : Told → MsgNo → Type 0
IsOut told number = IsGone told.acts number ⊎ (waiting_after number told.moves None ≢ None)

-- a message is woken now that waited so before the scan
pub record IsWoken (told : Told) (waking : Waking) (number : MsgNo) (before : Option ℕ) : Type 0 where
  pub woken : is_woken waking (waiting_after number told.moves before) ≡ true
  pub not_gone : IsGone told.acts number → ⊥

-- the number is that of a woken message that was stalled before the scan
pub record IsWokenStalled (stalled : List Stalled) (told : Told) (waking : Waking) (number : MsgNo) : Type 0 where
  pub it : Stalled
  pub held : Contains stalled it
  pub is : IsWoken told waking it.message.number (Some it.line)
  pub number_is : it.message.number ≡ number

-- or of one that the scan itself has stalled or woken
pub record IsWokenMoved (moves : List Move) (told : Told) (waking : Waking) (number : MsgNo) : Type 0 where
  pub it : Move
  pub held : Contains moves it
  pub is : IsWoken told waking it.number None
  pub number_is : it.number ≡ number

-- the number is one of these, and that of a woken message that didn't wait before the scan, or that the scan has moved
pub record IsWokenAmong (numbers : List MsgNo) (told : Told) (waking : Waking) (number : MsgNo) : Type 0 where
  pub among : Contains numbers number
  pub is : IsWoken told waking number None

-- the number is that of a woken message that was stalled under a line before the scan, and waits there still
pub record IsWokenUnder (stalled : List Stalled) (told : Told) (line : ℕ) (number : MsgNo) : Type 0 where
  pub it : Stalled
  pub held : Contains stalled it
  pub under : it.line ≡ line
  pub is : IsWoken told (waking.Line line) it.message.number (Some line)
  pub number_is : it.message.number ≡ number

-- so, by which messages are woken
abbrev pub IsWokenKept : List Stalled → Told → Waking → MsgNo → Type 0
IsWokenKept stalled told (waking.Line line) number = IsWokenUnder stalled told line number
IsWokenKept stalled told waking.All number = IsWokenStalled stalled told waking.All number

abbrev pub IsWokenIn : List Stalled → Told → Waking → MsgNo → Type 0
IsWokenIn stalled told waking number = IsWokenStalled stalled told waking number ⊎ IsWokenMoved told.moves told waking number

-- a message of the kept mail that isn't gone, and that waits as the scan's acts have left it
pub record IsLeft (queues : Queues) (stalled : List Stalled) (told : Told) (o : InboxMessage) : Type 0 where
  pub before : Option ℕ
  pub held : IsAt queues stalled o.message before
  pub now : waiting_after o.message.number told.moves before ≡ o.waiting
  pub not_gone : IsGone told.acts o.message.number → ⊥

-- a message that waits, or has arrived
abbrev pub IsSeen : ℕ → InboxMessage → Type 0
IsSeen cycle o = o.waiting ≡ None → o.message.arrival ≤ cycle

-- an inbox has of the messages that wait or have arrived those that are left of the kept mail
pub record Reflects (queues : Queues) (stalled : List Stalled) (told : Told) (inbox : List InboxMessage) : Type 0 where
  pub ascends : NumbersAscend inbox
  pub left : (o : InboxMessage) → IsSeen told.cycle o → Contains inbox o ↔ IsLeft queues stalled told o
  -- what was stalled before the scan and waits no longer was woken
  pub back : (s : Stalled) → Contains stalled s → waiting_after s.message.number told.moves (Some s.line) ≡ None → Contains told.acts.woken s.message.number
  -- what was stalled or woken is in the kept mail
  pub moved : (move : Move) → Contains told.moves move → (o : InboxMessage) × Has queues stalled o × (o.message.number ≡ move.number)
  -- what waits that was moved was stalled
  pub parked : (number : MsgNo) → waiting_after number told.moves None ≢ None → Contains told.acts.stalled number

-- the counts fit in 64 bits after one copy more
pub record CountsFit (mail : Mail) : Type 0 where
  pub sent : mail.sent + 1 < 2 ^ 64
  pub drawn : mail.drawn + 1 < 2 ^ 64
  pub copies : mail.copies + 1 < 2 ^ 64

-- so do the counts of slots in use
abbrev pub LentFit : Mail → Type 0
LentFit mail = All (λ (l : Lent). l.count + 1 < 2 ^ 64) mail.lent

-- the act can be made in the mail: a message that comes in has a new number, counts fit, and a credit comes for a later cycle
abbrev pub IsMakeable : ℕ → Mail → MailAct → Type 0
IsMakeable now mail (Arrive m) = IsNewIn mail m.number
IsMakeable now mail (Count drawn) = CountsFit mail
IsMakeable now mail (Lend receiver buffer) = LentFit mail
IsMakeable now mail (Credit c) = now < c.arrival
IsMakeable now mail _ = Unit {0}

-- so of each act, in the mail as those before it leave it
unfoldable pub AreMakeable : ℕ → Mail → List MailAct → Type 0
AreMakeable now mail [] = Unit {0}
AreMakeable now mail (act ∷ rest) = IsMakeable now mail act × AreMakeable now (after_act now mail act) rest

-- the acts can be made in the mail, and what is counted is what the changed mail counts
pub record CopiesFit (mail : Mail) (told : Told) : Type 0 where
  pub makeable : AreMakeable told.cycle mail told.log
  pub counts : told.counts ≡ counts_in (changed_mail mail told)

-- what holds of the changes of a scan of this mail
abbrev pub AreOf : MailStore → Told → Type 0
AreOf store told =
    Reflects store.buffers.items store.stalls.kept told (changed_mail (mail_of store) told).inbox
    × CopiesFit (mail_of store) told
