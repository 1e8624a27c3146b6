-- What a container holds, and for how many more entries it has room: so many can be put in without taking memory. Two
-- containers that hold the same have the same `kept`, whatever their room.
use Rattle.std.specs.Prelude.{ℕ, refl}
use Rattle.std.specs.Coded.{Coded, code_by, coded×, coded_ℕ}

pub record Roomy (X : Type 0) : Type 0 where
  pub kept : X
  pub room : ℕ

-- it is stored as the pair of its two parts
abbrev pub roomy_code : {X : Type 0} → Coded X → Coded (Roomy X)
roomy_code {X} x = code_by (X × ℕ) (coded× x coded_ℕ) (λ r. (r.kept, r.room)) (λ p. record { kept = p.0; room = p.1 }) (λ _. refl)
