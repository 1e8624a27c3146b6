use Rattle.std.proofs.Common.{refl}
use Rattle.std.proofs.lemmas.Result.{err_from_is_err_and}
use Rattle.acts.specs.Prelude.{itself}
use Rattle.acts.proofs.Walk.{and_does, and_stops, does_ends_as, does_without_memory}
use Rattle.body_walk.proofs.places.with_place.Goals as goal

pub returns-in_err-rebind-in-Named : goal.returns-in_err-rebind-in-Named
returns-in_err-rebind-in-Named g c =
    let p = err_from_is_err_and c.from_residual.result c.from_residual.ensures.1 in rw (p.1, p.2) (does_without_memory _ _ _ _)

pub returns-in_ok-rebind-in-Named : goal.returns-in_ok-rebind-in-Named
returns-in_ok-rebind-in-Named g c = rw (c.in-Named.is, ← c.deref.ensures) (does_ends_as _ _ _ _ c.in_ok-rebind-in-Named.ensures)

pub returns-in_err-with_part-in-Part : goal.returns-in_err-with_part-in-Part
returns-in_err-with_part-in-Part g c =
    let p = err_from_is_err_and c.from_residual-in_err-with_part-in-Part.result c.from_residual-in_err-with_part-in-Part.ensures.1 in
    rw (p.1, p.2) (does_without_memory _ _ _ _)

pub returns-in_ok-with_part-in-Part : goal.returns-in_ok-with_part-in-Part
returns-in_ok-with_part-in-Part g c = rw (c.in-Part.is, ← c.deref-in-Part.ensures) (does_ends_as _ _ _ _ c.in_ok-with_part-in-Part.ensures)

pub returns-in_err-set-in-Line : goal.returns-in_err-set-in-Line
returns-in_err-set-in-Line g c =
    let p = err_from_is_err_and c.from_residual-in_err-set-in-Line.result c.from_residual-in_err-set-in-Line.ensures.1 in
    rw (c.in-Line.is, p.1, p.2) (and_stops itself _ _ _ _ _ _ _ c.in_err-set-in-Line.ensures)

pub returns-in_ok-set-in-Line : goal.returns-in_ok-set-in-Line
returns-in_ok-set-in-Line g c = rw c.in-Line.is (and_does itself _ _ _ _ _ _ _ _ c.in_ok-set-in-Line.ensures (does_ends_as _ _ _ _ refl))
