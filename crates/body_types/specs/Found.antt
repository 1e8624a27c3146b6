-- What the code says of expressions and arguments, as the definitions of a protocol's rules see it. Of what is broken in an
-- expression the code knows the first alone: so two descriptions of an expression tell the same where they agree in all else and
-- have the same first.
use Rattle.std.specs.Prelude.{◌≡◌, Option, List, map}
use Rattle.slicc_plan.specs.declared.broken.Broken.{Broken}
use Rattle.slicc_plan.specs.Buffers.{listed}
use Rattle.slicc_plan.specs.CallTypes as call
use Rattle.slicc_plan.specs.Meanings as meaning
use Rattle.slicc_plan.specs.Prelude.{first_of}
use Rattle.body_types.specs.declared.typed.Typed.{Typed}
use Rattle.body_types.specs.declared.typed.Given.{Given}
use Rattle.body_types.specs.Views.{meaning_of, written_of}

-- with the first broken rule alone
abbrev pub typed_of : Typed → call.Typed
typed_of t = record { meaning = meaning_of t.meaning; written = written_of t.written; broken = listed t.broken }

abbrev pub given_of : Given → call.Given
given_of g = record { place = g.place; typed = typed_of g.typed }

abbrev pub all_given_of : List Given → List call.Given
all_given_of gs = map given_of gs

-- what is told of an expression
pub record Found : Type 0 where
  pub meaning : meaning.Meaning
  pub written : call.Written
  pub first : Option Broken

abbrev pub found_of : call.Typed → Found
found_of t = record { meaning = t.meaning; written = t.written; first = first_of t.broken }
