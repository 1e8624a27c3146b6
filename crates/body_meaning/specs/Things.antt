-- What expressions give, as the values that operators, calls and places take. Only a value is one: another thing counts as false
-- there, as no accepted protocol has it. `OOD` is a reference to nothing, of the one sort that references
-- have in bodies.
use Rattle.std.specs.Prelude.{Bool, false, Option, None, Some}
use Rattle.ruby_value.specs.declared.value.Value.{Value}
use Rattle.ruby_value.specs.declared.value.Value.TheVariants as value
use Rattle.body_meaning.specs.declared.thing.Thing.{Thing}
use Rattle.body_meaning.specs.declared.thing.Thing.TheVariants as thing

abbrev pub value_in : Thing → Value
value_in (thing.Value v) = v
value_in _ = value.Bool false

-- what a call gives that answers this, or nothing
abbrev pub thing_of : Option Value → Thing
thing_of None = thing.Nothing
thing_of (Some v) = thing.Value v

abbrev pub boolean : Bool → Thing
boolean b = thing.Value (value.Bool b)

-- `OOD`
abbrev pub no_line : Thing
no_line = thing.Value (value.Entry None)
