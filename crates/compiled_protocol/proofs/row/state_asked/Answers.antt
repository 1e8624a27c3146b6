use Rattle.std.proofs.Common.{refl}
use Rattle.std.proofs.lemmas.Result.{err_from_is_err_and}
use Rattle.scan_steps.proofs.Tries.{tries_stops, tries_without_memory}
use Rattle.compiled_protocol.proofs.row.state_asked.Goals as goal

pub returns-in_err-arguments-in-Some : goal.returns-in_err-arguments-in-Some
returns-in_err-arguments-in-Some g c =
    let p = err_from_is_err_and c.from_residual.result c.from_residual.ensures.1 in
    rw (p.1, p.2) (tries_without_memory _ _ _ _)

pub returns-in-None : goal.returns-in-None
returns-in-None g c = rw c.in-None.is (tries_stops _ _ _ _ _ refl)
