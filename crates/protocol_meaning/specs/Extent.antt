-- How far the numbers in a protocol's values go: its enumerations, whose members are numbered from 0, and how many controllers a run
-- of it has, which are numbered from 0 too. A value is within this where it is a member of its enumeration, or 0 where that has none;
-- where it is the number of a controller; and where each number in a set of controllers is one. Values of other sorts always are.
use Rattle.std.specs.Prelude.{ℕ, ◌<◌, List, [], length, max, slice_get, unwrap_or}
use Rattle.std.specs.List.{All}
use Rattle.std.specs.Option.{option_map}
use Rattle.ruby_value.specs.declared.value.Value.{Value}
use Rattle.ruby_value.specs.declared.value.Value.TheVariants as value
use Rattle.ruby_symbols.specs.declared.types.EnumerationSymbol.{EnumerationSymbol}

pub record Extent : Type 0 where
  pub enumerations : List EnumerationSymbol
  pub controllers : ℕ

module _ (e : Extent) where
  -- of the enumeration of this number
  abbrev pub members_of : ℕ → List (List ℕ)
  members_of enumeration =
      unwrap_or (option_map (λ (s : EnumerationSymbol). s.members) (slice_get e.enumerations enumeration)) []

  -- one of its members by its number, or 0 where it has none
  abbrev pub IsMember : (enumeration member : ℕ) → Type 0
  IsMember enumeration member = member < max 1 (length (members_of enumeration))

  abbrev pub IsController : ℕ → Type 0
  IsController controller = controller < e.controllers

  abbrev pub IsWithin : Value → Type 0
  IsWithin (value.Enum enumeration member) = IsMember enumeration member
  IsWithin (value.Machine controller) = IsController controller
  IsWithin (value.Dest controllers) = All IsController controllers
  IsWithin _ = Unit {0}

  abbrev pub AreWithin : List Value → Type 0
  AreWithin values = All IsWithin values
