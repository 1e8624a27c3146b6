-- A cache: how many ways each set has, and for each set the list of its lines with their fields, the least
-- recently used line first. That the list has no more lines than ways isn't said here.
-- Sets and ways are gem5's; that a list in order of use stands for the replacement bits is this project's own.
use Rattle.std.specs.Prelude.{ℕ, List, refl}
use Rattle.std.specs.Coded.{Coded, code_by, coded×, coded_ℕ, coded_list}
use Rattle.ruby_value.specs.declared.value.Value.{Value}
use Rattle.ruby_value.specs.contracts.value.Value as value

-- a line number and the line's fields
abbrev pub Line : Type 0
Line = ℕ × List Value

pub record Cache : Type 0 where
  pub ways : ℕ
  pub sets : List (List Line)

-- a cache is stored as the pair of its two parts
abbrev pub cache_code : Coded Cache
cache_code =
    code_by (ℕ × List (List Line)) (coded× coded_ℕ (coded_list (coded_list (coded× coded_ℕ (coded_list value.the_row.coded))))) (λ c. (c.ways, c.sets)) (λ p. record { ways = p.0; sets = p.1 }) (λ _. refl)
