-- A controller that will wake in the next cycle, as one whose scan has stalled, and the acts tell so. The mark is this project's
-- own.
use Rattle.std.specs.Prelude.{true, ◌+◌}
use Rattle.ctl_face.specs.LocalView.{LocalView}
use Rattle.ctl_face.specs.Mailing.{mail_with_mark}

abbrev pub again : LocalView → LocalView
again v = record v { ctl = record v.ctl { mail = mail_with_mark v.ctl.mail (v.now + 1) }; acts = record v.acts { again = true } }
