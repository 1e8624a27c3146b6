-- The machine of a controller, by the controller's number: the first one in whose range it is. In a run's ranges it is in one at
-- most, and in one exactly where the number is below the total.
use Rattle.std.specs.Prelude.{ℕ, Bool, Option, List, ◌+◌, ◌&&◌, nat_le, nat_lt, position, slice_get}
use Rattle.std.specs.Option.{option_and_then}
use Rattle.ruby_value.specs.declared.setup.MachineSetup.{MachineSetup}
use Rattle.ctl_face.specs.Prelude.{Actor}
use Rattle.protocol_runs.specs.Setting.{Setting}

-- of a range, by the first number and how many there are
abbrev pub is_in_range : ℕ → ℕ × ℕ → Bool
is_in_range controller r = nat_le r.0 controller && nat_lt controller (r.0 + r.1)

abbrev pub machine_of : List (ℕ × ℕ) → ℕ → Option ℕ
machine_of ranges controller = position (is_in_range controller) ranges

module _ {D : Type 0} (s : Setting D) where
  -- what its machine is to a controller
  abbrev pub setup_of : ℕ → Option MachineSetup
  setup_of controller = option_and_then (λ machine. slice_get s.machines machine) (machine_of s.ranges controller)

  -- what a controller is among the actors
  abbrev pub actor_of : ℕ → Actor
  actor_of controller = record { me = controller; seed = s.seed; routes = s.routes }
