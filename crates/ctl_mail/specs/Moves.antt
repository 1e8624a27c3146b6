-- Where messages wait that a scan has stalled or woken. Each entry says of a message, by its number, that it waits under a line
-- from then on, or waits no longer; one without an entry waits as it did before. Of a message there is one entry, what became of it
-- last, and the entries are in the order of their numbers.
use Rattle.std.specs.Prelude.{ℕ, Bool, Option, List, is_some, if◌then◌else◌}
use Rattle.std.specs.List.{AllPairs, fold}
use Rattle.ruby_value.specs.declared.message.MsgNo.{MsgNo}
use Rattle.ruby_value.specs.Prelude.{IsBefore, inserted, number_before, same_number}
use Rattle.ctl_face.specs.Prelude.{is_under}
use Rattle.ctl_mail.specs.declared.act.MailAct.{MailAct}
use Rattle.ctl_mail.specs.declared.act.MailAct.TheVariants.{Wake, WakeAll}
use Rattle.ctl_mail.specs.declared.moves.Move.{Move}
use Rattle.ctl_mail.specs.declared.moves.Waking.{Waking}
use Rattle.ctl_mail.specs.declared.moves.Waking.TheVariants.{All, Line}

abbrev pub after_move : MsgNo → Option ℕ → Move → Option ℕ
after_move number waiting move = if same_number move.number number then move.line else waiting

-- the line under which the message of a number waits, if it does, that waited so before
unfoldable pub waiting_after : MsgNo → List Move → Option ℕ → Option ℕ
waiting_after number moves before = fold (after_move number) before moves

abbrev pub MovesRise : List Move → Type 0
MovesRise moves = AllPairs (λ (a b : Move). IsBefore a.number b.number) moves

-- the message of a number waits so from now on
unfoldable pub with_move : List Move → (number : MsgNo) (line : Option ℕ) → List Move
with_move moves number line = inserted (λ (a b : Move). number_before a.number b.number) moves (record { number = number; line = line })

-- and so do those of these numbers
unfoldable pub with_moves : List Move → (line : Option ℕ) → List MsgNo → List Move
with_moves moves line numbers = fold (λ (ms : List Move) (number : MsgNo). with_move ms number line) moves numbers

-- which messages are woken
abbrev pub is_woken : Waking → Option ℕ → Bool
is_woken (Line line) waiting = is_under line waiting
is_woken All waiting = is_some waiting

abbrev pub act_of : Waking → MailAct
act_of (Line line) = Wake line
act_of All = WakeAll
