-- The locals that bodies leave: w is one of v where some body that began in v ended without a fault in w. Which body that was, and what
-- it answered, doesn't matter.
use Rattle.std.specs.Prelude.{◌≡◌, Ok}
use Rattle.ctl_face.specs.Prelude.{LocalView}
use Rattle.acts.specs.Acting.{Acting, run}

pub record IsLeft (v w : LocalView) : Type 0 where
  pub body : Acting (Unit {0})
  pub ends : run body v ≡ Ok (record { value = tt; view = w })
