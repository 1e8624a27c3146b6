-- One message number comes before another: its sender has the smaller number, or the sender is the same and the
-- count is smaller. This order is this project's own, and it is what a buffer breaks ties of arrival by.
use Rattle.std.specs.Prelude.{◌≡◌, ◌<◌, ◌⊎◌}
use Rattle.ruby_value.specs.declared.message.MsgNo.{MsgNo}

abbrev pub IsBefore : MsgNo → MsgNo → Type 0
IsBefore a b = (a.sender < b.sender) ⊎ ((a.sender ≡ b.sender) × (a.count < b.count))
