use Rattle.std.proofs.Common.{rules}
use Rattle.std.proofs.lemmas.Result.{err_from_is_err_and}
use Rattle.scan_steps.proofs.Tries.{told_tries_as, tries_without_memory}
use Rattle.compiled_protocol.proofs.Lines.{line_is}
use Rattle.compiled_protocol.proofs.tries.state_read.Goals as goal

pub returns-in_err-arguments-in-Some : goal.returns-in_err-arguments-in-Some
returns-in_err-arguments-in-Some g c =
    let p = err_from_is_err_and c.from_residual.result c.from_residual.ensures.1 in
    rw (p.1, p.2) (tries_without_memory _ _ _ _)

pub returns-in-None : goal.returns-in-None
returns-in-None g c =
    let line = line_is c.args.t.address (search rules) in
    rw c.in-None.is (told_tries_as _ _ _ _ _ _ _ (rw c.known.ensures at c.told.ensures) (rw line at c.state.ensures))
