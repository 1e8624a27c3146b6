use Rattle.std.proofs.Common.{refl}
use Rattle.std.proofs.lemmas.Result.{err_from_is_err_and}
use Rattle.scan_steps.proofs.Tries.{then_halts, then_tries, tries_ends}
use Rattle.scan_walk.proofs.ports.+ports_tried.Goals as goal

pub returns-in-None : goal.returns-in-None
returns-in-None g t c = rw c.in-None.ensures (tries_ends _ _ _ _ refl)

pub returns-in_err-port_tried-in-Some : goal.returns-in_err-port_tried-in-Some
returns-in_err-port_tried-in-Some g t c =
    let p = err_from_is_err_and c.from_residual.result c.from_residual.ensures.1 in
    rw (p.1, p.2, c.in-Some.ensures) (then_halts _ _ _ _ _ _ _ _ c.in_err-port_tried-in-Some.ensures)

pub returns-in-Waits : goal.returns-in-Waits
returns-in-Waits g t c =
    rw c.in-Some.ensures (then_tries _ _ _ _ _ _ _ _ _ (rw c.in-Waits.is at c.in_ok-port_tried-in-Some.ensures) c.ports_tried.ensures)

pub returns-in-Fires : goal.returns-in-Fires
returns-in-Fires g t c =
    rw c.in-Some.ensures (then_tries _ _ _ _ _ _ _ _ _ (rw c.in-Fires.is at c.in_ok-port_tried-in-Some.ensures) (tries_ends _ _ _ _ refl))
