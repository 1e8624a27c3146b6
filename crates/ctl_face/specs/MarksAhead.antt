-- The cycles at which a controller must wake, after an act: each is one of those before, or comes after this cycle. So no
-- act asks for a wake-up in the cycle that it is done in. That marks lie ahead is this project's own rule.
use Rattle.std.specs.Prelude.{◌<◌, ◌⊎◌, ℕ, List}
use Rattle.std.specs.List.{All, Contains}

abbrev pub MarksAhead : (before : List ℕ) (now : ℕ) (after : List ℕ) → Type 0
MarksAhead before now after = All (λ mark. (now < mark) ⊎ Contains before mark) after
