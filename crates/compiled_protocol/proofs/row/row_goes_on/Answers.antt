use Rattle.std.proofs.Common.{subst, sym}
use Rattle.std.proofs.lemmas.Result.{err_from_is_err_and}
use Rattle.ruby_value.specs.declared.setup.MachineSetup.{MachineSetup}
use Rattle.scan_steps.proofs.Stays.{tries_stay}
use Rattle.scan_steps.proofs.Tries.{then_halts, then_tries}
use Rattle.compiled_protocol.specs.Prelude.{MayTry, machine_code}
use Rattle.compiled_protocol.proofs.row.row_goes_on.Goals as goal

pub returns-in_err-next : goal.returns-in_err-next
returns-in_err-next g c =
    let p = err_from_is_err_and c.from_residual.result c.from_residual.ensures.1 in
    rw (p.1, p.2) (then_halts _ _ _ _ _ _ _ _ c.in_err-next.ensures)

pub row_fired-requires-clause-may : goal.row_fired-requires-clause-may
row_fired-requires-clause-may g c =
    let same = tries_stay _ _ _ _ _ c.in_ok-next.ensures in
    subst (λ (setup : MachineSetup). MayTry (machine_code c.args.m) setup c.args.t) (sym same.machine) c.requires.may

pub returns : goal.returns
returns g c = then_tries _ _ _ _ _ _ _ _ _ c.in_ok-next.ensures c.row_fired.ensures
