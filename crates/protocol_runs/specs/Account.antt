-- Where the messages of a run are. A message is sent by a transition or issued by the driver; a transition's actions consume
-- it; until then it is in an inbox, stalled where it waits under a line, recycled where it doesn't wait and was put off, and
-- else queued. The account counts these. What it must keep: no number is sent twice, and each number that was sent is in
-- exactly one place, and no other number is in one.
use Rattle.std.specs.Prelude.{◌≡◌, ◌≤◌, ◌+◌, ◌&&◌, ℕ, Bool, not, List, length, map, count_by}
use Rattle.ruby_value.specs.declared.message.MsgNo.{MsgNo}
use Rattle.run_journal.specs.declared.entry.Entry.{Entry}
use Rattle.run_journal.specs.declared.summary.Account.{Account}
pub use Rattle.run_journal.specs.Prelude.{consumed_in, consumed_numbers, sent_in, sent_numbers}
use Rattle.ruby_value.specs.Prelude.{same_number}
use Rattle.protocol_runs.specs.RunRules.{Rules, Mailed}
use Rattle.protocol_runs.specs.World.{Place, World}
use Rattle.protocol_runs.specs.Verdict.{held_mail}

abbrev pub is_stalled : Mailed → Bool
is_stalled m = m.waits

abbrev pub is_recycled : Mailed → Bool
is_recycled m = not m.waits && m.recycled

abbrev pub is_queued : Mailed → Bool
is_queued m = not m.waits && not m.recycled

-- how often a number stands in a list
abbrev pub times : MsgNo → List MsgNo → ℕ
times number numbers = count_by (same_number number) numbers

module _ {C M D : Type 0} (r : Rules C M D) where
  abbrev pub account : List Entry → List (Place C) → Account
  account journal places =
      record {
        sent = length (sent_numbers journal);
        consumed = length (consumed_numbers journal);
        queued = count_by is_queued (held_mail r places);
        stalled = count_by is_stalled (held_mail r places);
        recycled = count_by is_recycled (held_mail r places);
      }

  pub record IsAccounted (journal : List Entry) (w : World C D) : Type 0 where
    pub sent_once : (number : MsgNo) → times number (sent_numbers journal) ≤ 1
    pub one_place :
        (number : MsgNo)
        → times number (sent_numbers journal)
        ≡ times number (consumed_numbers journal) + times number (map (λ (m : Mailed). m.number) (held_mail r w.places))
