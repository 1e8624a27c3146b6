-- An act on the front of a buffer: the mail after it, and the number of the message that it was done to; or the fault where
-- there is no front. The fault is this project's own.
use Rattle.std.specs.Prelude.{Option, None, Some, Result, Ok, Err}
use Rattle.ruby_value.specs.declared.fault.Fault.{Fault}
use Rattle.ruby_value.specs.declared.fault.Fault.TheVariants.{Front}
use Rattle.ruby_value.specs.declared.message.Message.{Message}
use Rattle.ruby_value.specs.declared.message.MsgNo.{MsgNo}
use Rattle.ctl_face.specs.Acts.{Acts}
use Rattle.ctl_face.specs.Ctl.{Mail}
use Rattle.ctl_face.specs.LocalView.{LocalView}

pub record AtFront : Type 0 where
  pub mail : Mail
  pub number : MsgNo

abbrev pub at_front : (Message → Mail) → Option Message → Result AtFront Fault
at_front change None = Err Front
at_front change (Some m) = Ok (record { mail = change m; number = m.number })

-- the local after such an act, which is told among the acts
abbrev pub after_front : LocalView → (MsgNo → Acts) → Result AtFront Fault → Result LocalView Fault
after_front v told (Ok a) = Ok (record v { ctl = record v.ctl { mail = a.mail }; acts = told a.number })
after_front v told (Err fault) = Err fault
