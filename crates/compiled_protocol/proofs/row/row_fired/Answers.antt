use Rattle.std.proofs.Common.{refl}
use Rattle.std.proofs.lemmas.Result.{err_from_is_err_and}
use Rattle.scan_steps.proofs.Tries.{then_halts, then_tries, tries_ends, tries_without_memory}
use Rattle.compiled_protocol.proofs.row.row_fired.Goals as goal

pub returns-in_err-arguments : goal.returns-in_err-arguments
returns-in_err-arguments g c =
    let p = err_from_is_err_and c.from_residual.result c.from_residual.ensures.1 in
    rw (p.1, p.2) (tries_without_memory _ _ _ _)

pub returns-in_err-body_run : goal.returns-in_err-body_run
returns-in_err-body_run g c =
    let p = err_from_is_err_and c.from_residual-in_err-body_run.result c.from_residual-in_err-body_run.ensures.1 in
    rw (p.1, p.2)
    (then_halts _ _ _ _ _ _ _ _ (rw (c.known.ensures, c.in_ok-arguments.ensures, c.last_state.ensures) at c.in_err-body_run.ensures))

pub returns : goal.returns
returns g c =
    then_tries _ _ _ _ _ _ _ _ _ (rw (c.known.ensures, c.in_ok-arguments.ensures, c.last_state.ensures) at c.in_ok-body_run.ensures)
    (tries_ends _ _ _ _ refl)
