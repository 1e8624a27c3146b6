use Rattle.emit_expressions.proofs.Adding.{left_if_ok}
use Rattle.emit_expressions.proofs.spots.left_behind.Goals as goal

pub returns : goal.returns
returns c = left_if_ok _ _ _ _ c.piece_behind.ensures
