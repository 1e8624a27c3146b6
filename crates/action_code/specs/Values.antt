-- The kinds of values on the stack. An enumeration's default member isn't compared, so kinds there have member 0 in its place. Of a
-- reference to a line the kind is that of its table's lines, whichever sort of value holds it. Of one to nothing the sort of the value
-- decides whether it is an entry's or a TBE's, and the number beside it is the structure's. A reference to a line names a table that is
-- there, and a line is a number below 2^58.
use Rattle.std.specs.Prelude.{ℕ, ◌^◌, Bool, true, Option, None, Some, List, ◌&&◌, is_some, nat_lt, slice_get}
use Rattle.ruby_value.specs.declared.kind.Kind.{Kind}
use Rattle.ruby_value.specs.declared.kind.Kind.TheVariants as kind
use Rattle.ruby_value.specs.declared.value.Ref.{Ref}
use Rattle.ruby_value.specs.declared.value.Value.{Value}
use Rattle.ruby_value.specs.declared.value.Value.TheVariants as value
use Rattle.action_code.specs.declared.program.TableDecl.{TableDecl}
use Rattle.action_code.specs.Tables.{kind_of_table}

abbrev pub bare : Kind → Kind
bare (kind.Enum enumeration default) = kind.Enum enumeration 0
bare k = k

-- the kind of references to the lines of a table, where it is there
abbrev pub kind_of_lines : List TableDecl → Option TableDecl → (otherwise : Kind) → Kind
kind_of_lines tables None otherwise = otherwise
kind_of_lines tables (Some t) otherwise = kind_of_table tables t

abbrev pub kind_of_reference : List TableDecl → Option Ref → (to_nothing : Kind) → Kind
kind_of_reference tables None to_nothing = to_nothing
kind_of_reference tables (Some r) to_nothing = kind_of_lines tables (slice_get tables r.table) to_nothing

-- of a value, and the number that stands beside it
abbrev pub kind_of : List TableDecl → Value → ℕ → Kind
kind_of tables (value.Bool b) structure = kind.Bool
kind_of tables (value.Int n) structure = kind.Int
kind_of tables (value.Enum enumeration member) structure = kind.Enum enumeration 0
kind_of tables (value.Addr a) structure = kind.Addr
kind_of tables (value.Machine controller) structure = kind.Machine
kind_of tables (value.Dest members) structure = kind.Dest
kind_of tables (value.Block b) structure = kind.Block
kind_of tables (value.Entry r) structure = kind_of_reference tables r (kind.Entry structure)
kind_of tables (value.Tbe r) structure = kind_of_reference tables r (kind.Tbe structure)

abbrev pub names_line : List TableDecl → Option Ref → Bool
names_line tables None = true
names_line tables (Some r) = is_some (slice_get tables r.table) && nat_lt r.line (2 ^ 58)

abbrev pub can_push : List TableDecl → Value → Bool
can_push tables (value.Entry r) = names_line tables r
can_push tables (value.Tbe r) = names_line tables r
can_push tables _ = true
