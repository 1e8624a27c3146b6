-- Whether a buffer has a message to look at, and that message: the front in this cycle, or the fault where there is
-- none. gem5 asserts that there is one; the fault is this project's own.
use Rattle.std.specs.Prelude.{ℕ, Bool, Option, Result, is_some}
use Rattle.std.specs.Option.{ok_or}
use Rattle.ruby_value.specs.declared.fault.Fault.{Fault}
use Rattle.ruby_value.specs.declared.fault.Fault.TheVariants.{Front}
use Rattle.ruby_value.specs.declared.message.Message.{Message}
use Rattle.ctl_face.specs.Front.{front}
use Rattle.ctl_face.specs.LocalView.{LocalView}

abbrev pub front_now : LocalView → ℕ → Option Message
front_now v buffer = front v.ctl.mail buffer v.now

abbrev pub ready : LocalView → ℕ → Bool
ready v buffer = is_some (front_now v buffer)

abbrev pub required_front : LocalView → ℕ → Result Message Fault
required_front v buffer = ok_or (front_now v buffer) Front
