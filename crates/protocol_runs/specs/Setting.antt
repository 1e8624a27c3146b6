-- What a run of a protocol begins with: what each machine is to its controllers; which controllers it has, by the number of the
-- first and how many they are; the routes between controllers; the seed of their random words; the last cycle that the run may
-- reach; the most transitions that a controller may fire in one cycle; the seats of the driver; and the driver as it begins. The
-- setups of machines are plain data, from a plan and a topology. All this is this project's own.
use Rattle.std.specs.Prelude.{ℕ, Bool, List}
use Rattle.ruby_value.specs.declared.setup.MachineSetup.{MachineSetup}
use Rattle.ctl_face.specs.declared.routes.Routes.{Routes}

-- A seat of a driver: its controller, whether the controller's sequencer is the seat's, and the number of the buffer `mandatoryQueue`
-- within the controller's machine. The seat of a plain run has no sequencer, even where the controller has one.
pub record SeatSetup : Type 0 where
  pub controller : ℕ
  pub has_sequencer : Bool
  pub queue : ℕ

pub record Setting (D : Type 0) : Type 0 where
  pub machines : List MachineSetup
  pub ranges : List (ℕ × ℕ)
  pub routes : Routes
  pub seed : ℕ
  pub cycles : ℕ
  pub limit : ℕ
  pub seats : List SeatSetup
  pub driver : D
