use Rattle.std.proofs.Common.{refl, rules}
use Rattle.std.proofs.lemmas.Result.{err_from_is_err_and}
use Rattle.scan_steps.proofs.Tries.{then_halts, then_tries, tries_ends}
use Rattle.scan_steps.proofs.Stays.{tries_stay}
use Rattle.compiled_protocol.specs.Prelude.{machine_code}
use Rattle.compiled_protocol.proofs.Mays.{first_may, rest_may}
use Rattle.compiled_protocol.proofs.ports.+ports_run.Goals as goal

pub port_run-requires : goal.port_run-requires
port_run-requires g t c = record {
  may = first_may (machine_code c.args.m) (g.T.Local.view c.args.local.now).machine c.args.bodies.now c.in-Some.parts.0.now c.in-Some.parts.1.now c.in-Some.ensures c.requires.may;
}

pub ports_run-requires : goal.ports_run-requires
ports_run-requires g t c κs within =
    let same = tries_stay _ _ _ _ _ c.in_ok-port_run-in-Some.ensures in
    let may =
    rest_may (machine_code c.args.m) (g.T.Local.view c.args.local.now).machine c.args.bodies.now c.in-Some.parts.0.now c.in-Some.parts.1.now c.in-Some.ensures c.requires.may
    (g.T.Local.view c.port_run.new.local).machine same.machine in
    (search rules, (search rules, may))

pub returns-in-None : goal.returns-in-None
returns-in-None g t c = rw c.in-None.ensures (tries_ends _ _ _ _ refl)

pub returns-in_err-port_run-in-Some : goal.returns-in_err-port_run-in-Some
returns-in_err-port_run-in-Some g t c =
    let p = err_from_is_err_and c.from_residual.result c.from_residual.ensures.1 in
    rw (p.1, p.2, c.in-Some.ensures) (then_halts _ _ _ _ _ _ _ _ c.in_err-port_run-in-Some.ensures)

pub returns-in-Waits : goal.returns-in-Waits
returns-in-Waits g t c =
    rw c.in-Some.ensures (then_tries _ _ _ _ _ _ _ _ _ (rw c.in-Waits.is at c.in_ok-port_run-in-Some.ensures) c.ports_run.ensures)

pub returns-in-Fires : goal.returns-in-Fires
returns-in-Fires g t c =
    rw c.in-Some.ensures (then_tries _ _ _ _ _ _ _ _ _ (rw c.in-Fires.is at c.in_ok-port_run-in-Some.ensures) (tries_ends _ _ _ _ refl))
