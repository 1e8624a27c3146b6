-- A lawful local in a run: its controller is one of a machine of the run, and goes by routes that fit the whole run. That its
-- parameters end with each machine's first controller and count isn't asked here: whoever makes the controllers shows it.
use Rattle.std.specs.Prelude.{◌≡◌, ℕ, List, Some, slice_get}
use Rattle.ruby_value.specs.declared.setup.MachineSetup.{MachineSetup}
use Rattle.ctl_face.specs.Fits.{IsLawful}
use Rattle.ctl_face.specs.LocalView.{Actor, LocalView}
use Rattle.ctl_face.specs.RoutesFit.{IsOfMachine, RoutesFit}

-- a controller of this machine in a run of these machines, by the first controller of each and how many it has
pub record IsController (machines : List MachineSetup) (ranges : List (ℕ × ℕ)) (m : MachineSetup) (actor : Actor) : Type 0 where
  pub routes : RoutesFit machines ranges actor.routes
  pub machine : ℕ
  pub of_machine : IsOfMachine ranges machine actor.me
  pub is : slice_get machines machine ≡ Some m

pub record IsInRun (machines : List MachineSetup) (ranges : List (ℕ × ℕ)) (v : LocalView) : Type 0 where
  pub controller : IsController machines ranges v.machine v.actor
  pub lawful : IsLawful v
