-- What a contract sees of a local, in which the acts of a scan of a controller are done: what the machine is, who the
-- controller is among the actors, the cycle, the controller that the scan began with, the controller as the acts have left it,
-- and what they have done to messages. No act changes the first four; the one that the scan began with is kept, so that what
-- a scan leaves can be tied to it.
use Rattle.std.specs.Prelude.{◌≡◌, ℕ}
use Rattle.ruby_value.specs.declared.setup.MachineSetup.{MachineSetup}
use Rattle.ctl_face.specs.Acts.{Acts}
use Rattle.ctl_face.specs.Ctl.{Ctl}
use Rattle.ctl_face.specs.declared.routes.Routes.{Routes}

-- a controller's actor number, the seed of the run's random words, and the routes between controllers
pub record Actor : Type 0 where
  pub me : ℕ
  pub seed : ℕ
  pub routes : Routes

pub record LocalView : Type 0 where
  pub machine : MachineSetup
  pub actor : Actor
  pub now : ℕ
  pub start : Ctl
  pub ctl : Ctl
  pub acts : Acts

-- the same scan of the same controller
pub record SameScan (old new : LocalView) : Type 0 where
  pub machine : new.machine ≡ old.machine
  pub actor : new.actor ≡ old.actor
  pub now : new.now ≡ old.now
  pub start : new.start ≡ old.start
