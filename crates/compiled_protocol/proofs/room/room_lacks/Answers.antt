use Rattle.acts.proofs.Walk.{false_does, then_does}
use Rattle.compiled_protocol.proofs.room.room_lacks.Goals as goal

pub returns : goal.returns
returns g c =
    then_does _ _ _ _ _ _ _ _ _ (rw c.deref.ensures at c.in_ok-short.ensures)
    (false_does _ _ _ _ _ _ _ c.if-short.false (rw c.deref-2.ensures at c.any_short-2.ensures))
