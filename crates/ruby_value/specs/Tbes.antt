-- A TBE table: how many lines it may hold, and the fields of each line that it holds.
-- That a table is bounded is gem5's rule; the bound is the table's own. Nothing here says that it is kept.
use Rattle.std.specs.Prelude.{ℕ, List, refl}
use Rattle.std.specs.Coded.{Coded, code_by, coded×, coded_ℕ, coded_list}
use Rattle.std.specs.Ordering.{nat_cmp}
use Rattle.std.specs.FinMap as map
use Rattle.ruby_value.specs.declared.value.Value.{Value}
use Rattle.ruby_value.specs.contracts.value.Value as value

pub record Tbes : Type 0 where
  pub entries : ℕ
  pub held : map.FinMap nat_cmp (List Value)

-- a table is stored as the pair of its two parts
abbrev pub tbes_code : Coded Tbes
tbes_code =
    code_by (ℕ × map.FinMap nat_cmp (List Value)) (coded× coded_ℕ (map.code coded_ℕ (coded_list value.the_row.coded))) (λ t. (t.entries, t.held)) (λ p. record { entries = p.0; held = p.1 }) (λ _. refl)
