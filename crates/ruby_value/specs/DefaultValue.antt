-- The value that a local, a parameter or a field of a kind has before anything is written to it.
-- For an enumeration it is the member that the kind names, which is the named default or else the first; what
-- the others begin with is the rule of SLICC in gem5.
use Rattle.std.specs.Prelude.{[], None, false, pos, replicate}
use Rattle.ruby_value.specs.declared.kind.Kind.{Kind}
use Rattle.ruby_value.specs.declared.kind.Kind.TheVariants as kind
use Rattle.ruby_value.specs.declared.value.Value.{Value}
use Rattle.ruby_value.specs.declared.value.Value.TheVariants.{Bool, Int, Enum, Addr, Machine, Dest, Block, Entry, Tbe}

abbrev pub default_value : Kind → Value
default_value kind.Bool = Bool false
default_value kind.Int = Int (pos 0)
default_value (kind.Enum enumeration member) = Enum enumeration member
default_value kind.Addr = Addr 0
default_value kind.Machine = Machine 0
default_value kind.Dest = Dest []
default_value kind.Block = Block (record { bytes = replicate 64 0 })
default_value (kind.Entry structure) = Entry None
default_value (kind.Tbe structure) = Tbe None
