-- Sequencers that are put back as they were taken leave the places as they were.
use Rattle.std.proofs.Common.{◌≡◌, ◌+◌, ℕ, List, [], ◌∷◌, None, refl, ◌∙◌, ap}
use Rattle.std.specs.List.{AllPairs}
use Rattle.protocol_runs.specs.Prelude.{changed_from, seats_in}
use Rattle.protocol_runs.specs.World as runs
use Rattle.ctl_face.specs.Prelude.{Ctl}
use Rattle.sequencer.specs.Prelude.{Drive}
use Rattle.world_state.specs.declared.seat.SeatAt.{SeatAt}
use Rattle.world_state.specs.Seated.{AreApart}
use Rattle.world_state.specs.Prelude.{controllers_in, seated, setups_in}
use Rattle.world_state.proofs.Served.{served-places}

-- a driver that does nothing
abbrev resting : Drive ℕ
resting = record { driver = 0; taken = []; issued = []; finding = None; next = None }

unchanged : (k : ℕ) (places : List (runs.Place Ctl)) → changed_from k (λ c x. x) places ≡ places
unchanged k [] = refl
unchanged k (p ∷ ps) = ap (λ (qs : List (runs.Place Ctl)). p ∷ qs) (unchanged (k + 1) ps)

pub back : (seats : List SeatAt) (places : List (runs.Place Ctl)) → AllPairs AreApart seats
    → seated seats places (seats_in (setups_in seats) (controllers_in places)) ≡ places
back seats places apart = served-places seats apart places resting ∙ unchanged 0 places
