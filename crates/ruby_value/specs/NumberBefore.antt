-- Message numbers compared, as tests: one comes before another by sender, then by count, and two are the same where both
-- parts are. The order is this project's own.
use Rattle.std.specs.Prelude.{Bool, ◌==◌, ◌&&◌, ◌||◌, nat_lt}
use Rattle.ruby_value.specs.declared.message.MsgNo.{MsgNo}

abbrev pub number_before : MsgNo → MsgNo → Bool
number_before a b = nat_lt a.sender b.sender || (a.sender == b.sender && nat_lt a.count b.count)

abbrev pub same_number : MsgNo → MsgNo → Bool
same_number a b = a.sender == b.sender && a.count == b.count
