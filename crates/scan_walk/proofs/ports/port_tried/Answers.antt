use Rattle.std.proofs.lemmas.Result.{err_from_is_err_and}
use Rattle.scan_steps.proofs.Tries.{then_halts, then_tries, told_tries_as}
use Rattle.scan_walk.proofs.ports.port_tried.Goals as goal

pub returns-in_err-flow : goal.returns-in_err-flow
returns-in_err-flow g c =
    let p = err_from_is_err_and c.from_residual.result c.from_residual.ensures.1 in
    rw (p.1, p.2) (then_halts _ _ _ _ _ _ _ _ (told_tries_as _ _ _ _ _ _ _ (rw c.nothing_known.ensures at c.in_err-flow.ensures) c.port_done.ensures))

pub returns : goal.returns
returns g c = then_tries _ _ _ _ _ _ _ _ _ (told_tries_as _ _ _ _ _ _ _ (rw c.nothing_known.ensures at c.in_ok-flow.ensures) c.port_done.ensures) c.after_port.ensures
