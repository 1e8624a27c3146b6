-- The reference to a line of a cache, a directory or a TBE table, if the line is there. In a directory each line is.
-- Looking a line up doesn't change the order of use, which is this project's own rule.
use Rattle.std.specs.Prelude.{ℕ, Option}
use Rattle.std.specs.Option.{option_and_then, option_map}
use Rattle.ruby_value.specs.declared.value.Ref.{Ref}
use Rattle.ctl_face.specs.FieldsIn.{fields_in}
use Rattle.ctl_face.specs.LocalView.{LocalView}
use Rattle.ctl_face.specs.Tables.{table_at}

abbrev pub reference_to : ℕ → ℕ → Ref
reference_to table line = record { table = table; line = line }

abbrev pub lookup : LocalView → ℕ → ℕ → Option Ref
lookup v table line =
    option_map (λ _. reference_to table line) (option_and_then (λ t. fields_in t line) (table_at v table))
