-- How many slots a mail has left on a buffer that its controller's machine sends on; and what the acts of a scan add to the slots in
-- use.
use Rattle.std.specs.Prelude.{ℕ, Bool, false, Option, None, Some, ◌==◌, ◌&&◌, map, min}
use Rattle.std.specs.List.{filter}
use Rattle.ruby_value.specs.declared.setup.MachineSetup.{MachineSetup}
use Rattle.ctl_face.specs.Prelude.{Actor, Mail, buffer_place, free_of, leads_to, least_of}
use Rattle.ctl_mail.specs.declared.act.MailAct.{MailAct}
use Rattle.ctl_mail.specs.declared.act.MailAct.TheVariants.{Lend}

abbrev pub slots_in : Mail → MachineSetup → Actor → (buffer now : ℕ) → Option ℕ
slots_in mail machine actor buffer now =
    least_of (map (free_of mail now) (filter (leads_to actor buffer (buffer_place machine buffer)) actor.routes.slots))

-- the act takes a slot of this buffer at this receiver
abbrev pub is_lend : (receiver buffer : ℕ) → MailAct → Bool
is_lend receiver buffer (Lend to at) = to == receiver && at == buffer
is_lend receiver buffer act = false

-- the lesser of a number, if there is one, and another
abbrev pub lesser : Option ℕ → ℕ → Option ℕ
lesser None other = Some other
lesser (Some n) other = Some (min n other)
