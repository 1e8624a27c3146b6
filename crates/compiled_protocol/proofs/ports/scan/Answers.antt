use Rattle.std.proofs.Common.{◌≡◌, false, nat_le}
use Rattle.std.proofs.lemmas.Bool.{lt-leb}
use Rattle.scan_steps.proofs.Rounds.{round_is}
use Rattle.compiled_protocol.specs.Prelude.{machine_code, ports_run}
use Rattle.compiled_protocol.proofs.ports.scan.Goals as goal

pub returns : goal.returns
returns g c =
    let few : nat_le c.args.limit c.args.fired ≡ false = lt-leb c.args.limit c.args.fired c.if-limit-fired.false in
    round_is (ports_run (machine_code c.args.m) c.args.m.head.now.ports) c.args.limit c.args.fired few c.ports_run.result c.round_of.result
    (g.T.Local.view c.args.local.now) (g.T.Local.view c.ports_run.new.local) c.round_of.ensures
    (rw c.deref.ensures at c.ports_run.ensures)
