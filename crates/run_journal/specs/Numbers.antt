-- The numbers of messages in the entries of a journal: those that an entry has as sent or issued, and those that it has as consumed.
use Rattle.std.specs.Prelude.{List, [], map}
use Rattle.std.specs.List.{flat_map}
use Rattle.ruby_value.specs.declared.message.MsgNo.{MsgNo}
use Rattle.ruby_value.specs.declared.message.Sent.{Sent}
use Rattle.run_journal.specs.declared.entry.Entry.{Entry}
use Rattle.run_journal.specs.declared.entry.Entry.TheVariants.{Fired, Ended, Turned}

-- the numbers that an entry has as sent, or as issued
abbrev pub sent_in : Entry → List MsgNo
sent_in (Fired cycle c note consumed sent stalled woken recycled) = map (λ (s : Sent). s.number) sent
sent_in (Ended cycle c end) = []
sent_in (Turned cycle issued finding verdict) = issued

abbrev pub consumed_in : Entry → List MsgNo
consumed_in (Fired cycle c note consumed sent stalled woken recycled) = consumed
consumed_in (Ended cycle c end) = []
consumed_in (Turned cycle issued finding verdict) = []

abbrev pub sent_numbers : List Entry → List MsgNo
sent_numbers journal = flat_map sent_in journal

abbrev pub consumed_numbers : List Entry → List MsgNo
consumed_numbers journal = flat_map consumed_in journal
