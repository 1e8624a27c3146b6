use Rattle.std.proofs.Common.{◌∙◌, ap}
use Rattle.std.proofs.lemmas.Result.{err_from_is_err_and}
use Rattle.scan_steps.proofs.Tries.{then_halts, then_tries, tries_ends}
use Rattle.compiled_protocol.specs.Prelude.{state_in}
use Rattle.compiled_protocol.proofs.bodies.state_answered.Goals as goal

pub returns-in_err-end : goal.returns-in_err-end
returns-in_err-end g c =
    let p = err_from_is_err_and c.from_residual.result c.from_residual.ensures.1 in
    rw (p.1, p.2) (then_halts _ _ _ _ _ _ _ _ c.in_err-end.ensures)

pub returns : goal.returns
returns g c = then_tries _ _ _ _ _ _ _ _ _ c.in_ok-end.ensures (tries_ends _ _ _ _ (c.state_in.ensures ∙ ap (λ count. state_in c.args.m.states count c.in_ok-end.end) c.states.ensures))
