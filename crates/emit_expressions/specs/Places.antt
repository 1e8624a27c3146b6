-- What is found of a place that is assigned, as the place in code that it is: where that is a field of a line, the code of the reference is
-- that of the expression and the suffixes.
use Rattle.std.specs.Prelude.{List}
use Rattle.body_meaning.specs.Prelude.{Reading}
use Rattle.body_code.specs.declared.left.NameAt.{NameAt}
use Rattle.body_code.specs.declared.numbers.BodyNumbers.{BodyNumbers}
use Rattle.body_code.specs.Prelude.{piece_behind}
use Rattle.body_code.specs.Spots as code
use Rattle.emit_expressions.specs.declared.spots.Spot.{Spot}
use Rattle.emit_expressions.specs.declared.spots.Spot.TheVariants.{Local, Part, Line, Nowhere}

abbrev pub spot_code : Reading → BodyNumbers → List NameAt → Spot → code.Spot
spot_code s n names (Local slot k) = code.AtLocal slot k
spot_code s n names (Part f) = code.AtPart f
spot_code s n names (Line inner before k f) = code.AtLine (piece_behind s n names inner.now before.now).code k f
spot_code s n names Nowhere = code.Nowhere
