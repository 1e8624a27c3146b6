-- The controller that a store keeps, by the parts that keep it: tables and states, mail, and the requests of a sequencer where
-- there is one. Beside it a store has what it was made for, and room in its containers, which is no part of a controller.
use Rattle.std.specs.Prelude.{◌≡◌, ℕ, Option, length, unwrap_or}
use Rattle.std.specs.Option.{option_map}
use Rattle.ruby_value.specs.declared.setup.MachineSetup.{MachineSetup}
use Rattle.ruby_value.specs.Prelude.{Roomy, Requests}
use Rattle.ctl_face.specs.Prelude.{Ctl, IsMachine}
use Rattle.ctl_mail.specs.Prelude.{IsMail, buffer_count, mail_of}
use Rattle.ctl_tables.specs.Prelude.{default_of, states_of, tables_of}
use Rattle.ctl_store.specs.declared.parts.Parts.{Parts}

abbrev pub requests_of : Option (Roomy Requests) → Option Requests
requests_of s = option_map (λ (r : Roomy Requests). r.kept) s

abbrev pub ctl_of : Parts → Ctl
ctl_of p = record {
  tables = tables_of p.tables;
  states = states_of p.tables;
  mail = mail_of p.mail;
  sequencer = requests_of p.sequencer;
  fired = p.fired;
  stopped = p.stopped;
}

-- what the store was made for: a machine, and the controller's actor number
abbrev pub machine_of : Parts → MachineSetup
machine_of p = p.machine

abbrev pub me_of : Parts → ℕ
me_of p = p.me

-- what holds of the parts of each store
pub record IsKept (p : Parts) : Type 0 where
  pub machine : IsMachine p.machine
  pub default : default_of p.tables ≡ unwrap_or p.machine.default_state 0
  pub mail : IsMail p.mail
  pub buffers : buffer_count p.mail ≡ length p.machine.buffers
