-- What a driver must be for the laws of runs to hold, as the trait of drivers has it: at any seats that fit it, in any cycle of a run,
-- its turn is lawful, and no turn changes how many seats it needs.
use Rattle.std.specs.Prelude.{◌≡◌, ◌≤◌, ◌^◌, ℕ, List}
use Rattle.sequencer.specs.Prelude.{Drive, IsLawful, FitSeats, Seat, Seating}

pub record IsDriver {D : Type 0} (drive : D → List Seat → ℕ → Drive D) (needs : D → ℕ → ℕ) (least : D → ℕ) : Type 0 where
  pub lawful :
      (d : D) (s : Seating) (now : ℕ) → FitSeats (least d) s.seats → now ≤ 10 ^ 12
      → IsLawful (needs d now) now s (drive d s.seats now)
  pub lasting : (d : D) (seats : List Seat) (now : ℕ) → least (drive d seats now).driver ≡ least d
