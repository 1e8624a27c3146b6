-- Numbers on the command line: one to twenty decimal digits without a sign, within bounds. An option's number is that of
-- the words, or its default where they don't give it.
use Rattle.std.specs.Prelude.{ℕ, Bool, true, false, Option, Some, None, List, ◌+◌, ◌-◌, ◌*◌, ◌&&◌, nat_le, not, fold, length, codes, unwrap_or, if◌then◌else◌}
use Rattle.std.specs.List.{list_all}
use Rattle.std.specs.Option.{option_map_or}
use Rattle.std.specs.Str.{bytes_eq}
use Rattle.clap.specs.Walk.{Row, Text, first_of, is_empty}
use Rattle.ruby_options.specs.declared.options.Order.{Order}
use Rattle.ruby_options.specs.declared.options.Order.TheVariants.{Cycle, Journal}
use Rattle.ruby_options.specs.declared.tables.TheConstants.{ORDER, TRACE}

-- the least and the greatest of some numbers
abbrev pub Between : Type 0
Between = ℕ × ℕ

-- an option's name, the numbers that it may be, and its default
abbrev pub OptionRow : Type 0
OptionRow = Text × Between × ℕ

-- a row of the table as plain data
abbrev pub option_row : record { now : Text } × Between × ℕ → OptionRow
option_row o = (o.0.now, o.1, o.2)

abbrev pub is_digit : ℕ → Bool
is_digit c = nat_le 48 c && nat_le c 57

abbrev pub are_digits : Text → Bool
are_digits word = not (is_empty word) && list_all is_digit word

-- the value of decimal digits
abbrev pub value_of : Text → ℕ
value_of digits = fold (λ v c. v * 10 + (c - 48)) 0 digits

abbrev pub is_number_within : Between → Text → Bool
is_number_within bounds word =
    nat_le (length word) 20 && (are_digits word
    && (nat_le bounds.0 (value_of word) && nat_le (value_of word) bounds.1))

-- the number that a word is, or none where it is no number within the bounds
abbrev pub number_within : Between → Text → Option ℕ
number_within bounds word = if is_number_within bounds word then Some (value_of word) else None

-- the number that an option has by what was found, or none where its word is no number within its bounds
unfoldable pub number_in : List Row → OptionRow → Option ℕ
number_in found o = option_map_or (number_within o.1) (first_of o.0 found) (Some o.2)

unfoldable pub number_of : List Row → OptionRow → ℕ
number_of found o = unwrap_or (number_in found o) o.2

abbrev pub switch_of : Text → Option Bool
switch_of word =
    if bytes_eq word (codes "on") then Some true else (if bytes_eq word (codes "off") then Some false else None)

-- whether a run is traced, or none where the option's word is neither `on` nor `off`
unfoldable pub trace_in : List Row → Option Bool
trace_in found = option_map_or switch_of (first_of TRACE.now found) (Some true)

-- the order that a word names
abbrev pub order_named : Text → Option Order
order_named word =
    if bytes_eq word (codes "journal") then Some Journal else (if bytes_eq word (codes "cycle") then Some Cycle else None)

-- the order of a run's text, or none where the option's word is neither `journal` nor `cycle`
unfoldable pub order_in : List Row → Option Order
order_in found = option_map_or order_named (first_of ORDER.now found) (Some Journal)
