use Rattle.std.proofs.Common.{refl, sym}
use Rattle.std.proofs.lemmas.Result.{err_from_is_err_and}
use Rattle.body_meaning.specs.Prelude.{nothing_known}
use Rattle.scan_steps.proofs.Tries.{then_halts, then_tries, tries_ends}
use Rattle.compiled_protocol.specs.Prelude.{machine_code}
use Rattle.compiled_protocol.proofs.Mays.{goes_on, one_may}
use Rattle.compiled_protocol.proofs.ports.port_run.Goals as goal

pub returns-in_err-end : goal.returns-in_err-end
returns-in_err-end g c =
    let p = err_from_is_err_and c.from_residual.result c.from_residual.ensures.1 in
    rw (p.1, p.2) (then_halts _ _ _ _ _ _ _ _ (rw (c.nothing_known.ensures, c.new.ensures) at c.in_err-end.ensures))

pub trigger_tried-requires : goal.trigger_tried-requires
trigger_tried-requires g c = record {
  may = one_may (machine_code c.args.m) (g.T.Local.view c.body_run.new.local).machine c.in_ok-end.end c.in-Some.t c.in-Some.ensures
      (goes_on (machine_code c.args.m) nothing_known c.args.body c.in_ok-end.end (g.T.Local.view c.args.local.now) (g.T.Local.view c.body_run.new.local) c.requires.may
      (g.met.T.Local.lawful c.args.local.now) (rw (c.nothing_known.ensures, c.new.ensures) at c.in_ok-end.ensures));
}

pub returns-in-None : goal.returns-in-None
returns-in-None g c =
    then_tries _ _ _ _ _ _ _ _ _ (rw (c.nothing_known.ensures, c.new.ensures) at c.in_ok-end.ensures)
    (rw (sym c.in-None.ensures) (tries_ends _ _ _ _ refl))

pub returns-in-Some : goal.returns-in-Some
returns-in-Some g c =
    then_tries _ _ _ _ _ _ _ _ _ (rw (c.nothing_known.ensures, c.new.ensures) at c.in_ok-end.ensures)
    (rw (sym c.in-Some.ensures) c.trigger_tried.ensures)
