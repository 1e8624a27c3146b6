-- A directory: the fields that a line has before anything is written to it, and the fields of each line that was
-- written. It may hold any number of lines, since a directory stands for all of memory.
use Rattle.std.specs.Prelude.{List, refl}
use Rattle.std.specs.Coded.{Coded, code_by, coded×, coded_ℕ, coded_list}
use Rattle.std.specs.Ordering.{nat_cmp}
use Rattle.std.specs.FinMap as map
use Rattle.ruby_value.specs.declared.value.Value.{Value}
use Rattle.ruby_value.specs.contracts.value.Value as value

pub record Directory : Type 0 where
  pub initial : List Value
  pub written : map.FinMap nat_cmp (List Value)

-- a directory is stored as the pair of its two parts
abbrev pub directory_code : Coded Directory
directory_code =
    code_by (List Value × map.FinMap nat_cmp (List Value)) (coded× (coded_list value.the_row.coded) (map.code coded_ℕ (coded_list value.the_row.coded))) (λ d. (d.initial, d.written)) (λ p. record { initial = p.0; written = p.1 }) (λ _. refl)
