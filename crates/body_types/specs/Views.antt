-- What the code says of a body, as the definitions of a protocol's rules see it.
use Rattle.std.specs.Prelude.{ℕ, Option, None, Some, List, [], ◌++◌}
use Rattle.std.specs.Option.{option_map}
use Rattle.slicc_plan.specs.Buffers.{listed}
use Rattle.slicc_plan.specs.CallTypes as call
use Rattle.slicc_plan.specs.Meanings as meaning
use Rattle.slicc_plan.specs.Types as types
use Rattle.declared_types.specs.declared.lent.KnownType.{KnownType}
use Rattle.declared_types.specs.Prelude.{type_of}
use Rattle.body_types.specs.declared.meaning.Meaning.{Meaning}
use Rattle.body_types.specs.declared.meaning.Meaning.TheVariants.{Value, NoLine, BareLine, NewLine, Incoming, Outgoing, Table, InPort, OutPort, Nothing, Unknown}
use Rattle.body_types.specs.declared.meaning.Wanted.{Wanted}
use Rattle.body_types.specs.declared.meaning.Wanted.TheVariants.{Anything, AnyValue, OneOf, AnyLine, OnlyNoLine, Comparable, NewLineOf, AddressOrLineOf, TableOf, AnyInPort, AnyOutPort}
use Rattle.body_types.specs.declared.meaning.Written.{Written}
use Rattle.body_types.specs.declared.meaning.Written.TheVariants.{Local, Field, NoPlace}

abbrev pub type_if : Option KnownType → Option types.KnownType
type_if t = option_map type_of t

abbrev pub meaning_of : Meaning → meaning.Meaning
meaning_of (Value t) = meaning.value (type_of t)
meaning_of NoLine = meaning.no_line
meaning_of BareLine = meaning.bare_line
meaning_of (NewLine made) = meaning.new_line made.now
meaning_of (Incoming t) = meaning.incoming (type_of t)
meaning_of (Outgoing t) = meaning.outgoing (type_of t)
meaning_of (Table b) = meaning.table b
meaning_of (InPort t) = meaning.in_port (type_if t)
meaning_of (OutPort t) = meaning.out_port (type_if t)
meaning_of Nothing = meaning.nothing
meaning_of Unknown = meaning.unknown

abbrev pub wanted_of : Wanted → meaning.Wanted
wanted_of Anything = meaning.anything
wanted_of AnyValue = meaning.any_value
wanted_of (OneOf t u) = meaning.one_of (listed (type_if t) ++ listed (type_if u))
wanted_of AnyLine = meaning.any_line
wanted_of OnlyNoLine = meaning.only_no_line
wanted_of Comparable = meaning.comparable
wanted_of (NewLineOf t) = meaning.new_line_of (type_if t)
wanted_of (AddressOrLineOf t) = meaning.address_or_line_of (type_if t)
wanted_of (TableOf b) = meaning.table_of b
wanted_of AnyInPort = meaning.any_in_port
wanted_of AnyOutPort = meaning.any_out_port

abbrev pub written_of : Written → call.Written
written_of Local = call.a_local
written_of Field = call.a_field
written_of NoPlace = call.no_place
