-- A step for each of a list, one after another, each by what the one before has answered.
use Rattle.std.specs.Prelude.{List, [], ◌∷◌}
use Rattle.acts.specs.Prelude.{Acting, ends, ◌>>=◌}

abbrev pub each : {A X : Type 0} → (A → X → Acting A) → A → List X → Acting A
each step a [] = ends a
each step a (x ∷ xs) = step a x >>= (λ b. each step b xs)
