-- What slots mean. A slot has a word and says what the word stands for; a set of controllers or a block is kept apart, at the place of
-- its slot, and what isn't kept there counts as false.
use Rattle.std.specs.Prelude.{◌≡◌, ◌≢◌, ℕ, ◌+◌, ◌==◌, ◌%◌, false, Option, None, Some, List, [], ◌∷◌, replicate, slice_get, unwrap_or}
use Rattle.std.specs.Int.{cast_signed}
use Rattle.std.specs.Int.{w64}
use Rattle.ruby_value.specs.declared.value.Ref.{Ref}
use Rattle.ruby_value.specs.declared.value.Value.{Value}
use Rattle.ruby_value.specs.declared.value.Value.TheVariants as value
use Rattle.code_frame.specs.declared.slot.Slot.{Slot}
use Rattle.code_frame.specs.declared.slot.Sort.{Sort}
use Rattle.code_frame.specs.declared.slot.Sort.TheVariants as sort

-- a value that is kept apart; any other counts as zeros
abbrev pub big : Value → Value
big (value.Dest members) = value.Dest members
big (value.Block b) = value.Block b
big _ = value.Block (record { bytes = replicate 64 0 })

abbrev pub IsBig : Value → Type 0
IsBig (value.Dest members) = Unit {0}
IsBig (value.Block b) = Unit {0}
IsBig _ = ⊥

-- the value of a word, or the one that is kept apart
abbrev pub of_sort : Sort → ℕ → Value → Value
of_sort sort.Bool word apart = value.Bool (word == 1)
of_sort sort.Int word apart = value.Int (cast_signed w64 word)
of_sort (sort.Enum enumeration) word apart = value.Enum enumeration (word % 65536)
of_sort sort.Addr word apart = value.Addr word
of_sort sort.Machine word apart = value.Machine (word % 4294967296)
of_sort sort.NoEntry word apart = value.Entry None
of_sort sort.NoTbe word apart = value.Tbe None
of_sort (sort.Entry table) word apart = value.Entry (Some (record { table = table; line = word }))
of_sort (sort.Tbe table) word apart = value.Tbe (Some (record { table = table; line = word }))
of_sort sort.Apart word apart = big apart

abbrev pub value_in : Slot → Value → Value
value_in s apart = of_sort s.sort s.word apart

-- where nothing is kept apart
abbrev pub word_of : Slot → Value
word_of s = value_in s (value.Bool false)

abbrev pub IsWord : Sort → Type 0
IsWord sort.Apart = ⊥
IsWord _ = Unit {0}

abbrev pub value_at : List Value → ℕ → Value
value_at apart at = unwrap_or (slice_get apart at) (value.Bool false)

-- the reference that a word stands for
abbrev pub reference_of : Sort → ℕ → Option Ref
reference_of (sort.Entry table) word = Some (record { table = table; line = word })
reference_of (sort.Tbe table) word = Some (record { table = table; line = word })
reference_of _ word = None

-- of slots from a place on
abbrev pub values_from : ℕ → List Slot → List Value → List Value
values_from at [] apart = []
values_from at (s ∷ slots) apart = value_in s (value_at apart at) ∷ values_from (at + 1) slots apart

-- what is kept elsewhere than at a place is the same
abbrev pub SameElsewhere : List Value → ℕ → List Value → Type 0
SameElsewhere old at new = (k : ℕ) → k ≢ at → value_at new k ≡ value_at old k

-- a value was put at a place, and what is kept elsewhere is the same
pub record IsPut (old : List Value) (at : ℕ) (v : Value) (new : List Value) : Type 0 where
  pub there : value_at new at ≡ v
  pub elsewhere : SameElsewhere old at new

-- what a slot has apart went from one place to another
pub record IsMoved (s : Slot) (old : List Value) (from to : ℕ) (new : List Value) : Type 0 where
  pub there : value_in s (value_at new to) ≡ value_in s (value_at old from)
  pub elsewhere : (k : ℕ) → k ≢ to → k ≢ from → value_at new k ≡ value_at old k
