-- What a turn needs of a world's data, and of whom they are: they are those of a run that goes on, in which nobody is held and no
-- controller is due; and the seats and the bound on cycles are those of the run's setting.
use Rattle.std.specs.Prelude.{◌≡◌, ℕ, None, List}
use Rattle.ctl_face.specs.Prelude.{Ctl}
use Rattle.protocol_runs.specs.Prelude.{IsSetting, IsMeaning, Meaning, Setting}
use Rattle.sequencer.specs.Prelude.{Drive, Seat}
use Rattle.world_state.specs.Places.{made_in}
use Rattle.world_state.specs.declared.seat.SeatAt.{SeatAt}
use Rattle.world_state.specs.Seated.{setups_in}
use Rattle.world_state.specs.declared.state.State.{State}
use Rattle.world_state.specs.Closed.{IsRested}
use Rattle.world_state.specs.States.{IsSettled, IsNobody}

module _ {D : Type 0} (least : D → ℕ) (drive : D → List Seat → ℕ → Drive D) (cycles : ℕ) (seats : List SeatAt) where
  -- the data are those of a run of this meaning and setting
  pub record IsOfRun (p : Meaning) (s : Setting D) (held : Ctl) (st : State D) : Type 0 where
    pub meaning : IsMeaning p
    pub setting : IsSetting least s
    pub cycles_are : cycles ≡ s.cycles
    pub seats_are : setups_in seats ≡ s.seats
    pub kept : IsSettled p drive s held st

  -- of whatever run
  pub record CanTurn (st : State D) : Type 0 where
    pub meaning : Meaning
    pub setting : Setting D
    pub held : Ctl
    pub of_run : IsOfRun meaning setting held st
    pub goes_on : st.verdict ≡ None
    pub nobody : IsNobody (made_in st.places.items)
    pub rested : IsRested st
