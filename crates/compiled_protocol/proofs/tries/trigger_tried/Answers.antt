use Rattle.std.proofs.Common.{refl, subst, sym}
use Rattle.std.proofs.lemmas.Result.{err_from_is_err_and}
use Rattle.ruby_value.specs.declared.setup.MachineSetup.{MachineSetup}
use Rattle.scan_steps.proofs.Stays.{tries_stay}
use Rattle.scan_steps.proofs.Tries.{then_halts, then_tries, tries_stops}
use Rattle.compiled_protocol.specs.Prelude.{MayTry, machine_code}
use Rattle.compiled_protocol.proofs.tries.trigger_tried.Goals as goal

pub returns-in_err-state : goal.returns-in_err-state
returns-in_err-state g c =
    let p = err_from_is_err_and c.from_residual.result c.from_residual.ensures.1 in
    rw (p.1, p.2) (then_halts _ _ _ _ _ _ _ _ c.in_err-state.ensures)

pub row_tried-requires-clause-may : goal.row_tried-requires-clause-may
row_tried-requires-clause-may g c =
    let same = tries_stay _ _ _ _ _ c.in_ok-state.ensures in
    subst (λ (setup : MachineSetup). MayTry (machine_code c.args.m) setup c.args.t) (sym same.machine) c.requires.may

pub returns-in-None : goal.returns-in-None
returns-in-None g c =
    then_tries _ _ _ _ _ _ _ _ _ c.in_ok-state.ensures (rw (sym c.in-None.ensures) (tries_stops _ _ _ _ _ refl))

pub returns-in-Some : goal.returns-in-Some
returns-in-Some g c =
    then_tries _ _ _ _ _ _ _ _ _ c.in_ok-state.ensures (rw (sym c.in-Some.ensures) c.row_tried.ensures)
