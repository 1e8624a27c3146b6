-- What a value is where a number, a truth value, an address, a line, a controller, controllers, a block, a member or a reference is
-- wanted. Each value is one of each: one of another sort counts as 0, false, line 0, controller 0, no controllers, 64 zeros, member 0
-- or a reference to nothing, and an argument that isn't there counts as false. No accepted protocol has such a value there; that it
-- counts so is this project's own rule.
use Rattle.std.specs.Prelude.{ℕ, ℤ, pos, ◌%◌, ◌*◌, Bool, false, List, [], Option, None, replicate, slice_get, unwrap_or}
use Rattle.ruby_value.specs.declared.value.Block.{Block}
use Rattle.ruby_value.specs.declared.value.Ref.{Ref}
use Rattle.ruby_value.specs.declared.value.Value.{Value}
use Rattle.ruby_value.specs.declared.value.Value.TheVariants as value
use Rattle.ruby_value.specs.Prelude.{line_limit, line_of}

abbrev pub truth : Value → Bool
truth (value.Bool b) = b
truth _ = false

abbrev pub number : Value → ℤ
number (value.Int n) = n
number _ = pos 0

abbrev pub address : Value → ℕ
address (value.Addr a) = a
address _ = 0

-- the address of a line, which is one of 64 bits whatever the number
abbrev pub address_of_line : ℕ → ℕ
address_of_line line = line % line_limit * 64

abbrev pub line_named : Value → ℕ
line_named v = line_of (address v)

abbrev pub controller : Value → ℕ
controller (value.Machine number) = number
controller _ = 0

abbrev pub controllers : Value → List ℕ
controllers (value.Dest members) = members
controllers _ = []

abbrev pub zeros : Block
zeros = record { bytes = replicate 64 0 }

abbrev pub block : Value → Block
block (value.Block b) = b
block _ = zeros

-- the number of a member of an enumeration
abbrev pub member : Value → ℕ
member (value.Enum enumeration m) = m
member _ = 0

abbrev pub reference : Value → Option Ref
reference (value.Entry r) = r
reference (value.Tbe r) = r
reference _ = None

-- of the arguments of a call the one at a place counted from 0
abbrev pub argument : List Value → ℕ → Value
argument arguments i = unwrap_or (slice_get arguments i) (value.Bool false)
