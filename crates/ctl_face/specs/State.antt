-- The built-in map from lines to states, of a machine that writes neither `getState` nor `setState`: a line whose state
-- was never set has the default state. The built-in map is this project's own.
use Rattle.std.specs.Prelude.{ℕ, unwrap_or}
use Rattle.std.specs.FinMap as map
use Rattle.ctl_face.specs.LocalView.{LocalView}

abbrev pub state : LocalView → ℕ → ℕ
state v line = unwrap_or (map.get v.ctl.states line) (unwrap_or v.machine.default_state 0)

abbrev pub set_state : LocalView → ℕ → ℕ → LocalView
set_state v line new = record v { ctl = record v.ctl { states = map.insert v.ctl.states line new } }
