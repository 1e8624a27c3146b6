use Rattle.std.proofs.Common.{◌≡◌, false, nat_le}
use Rattle.std.proofs.lemmas.Bool.{lt-leb}
use Rattle.body_meaning.specs.Prelude.{ports_tried, reading}
use Rattle.scan_steps.proofs.Rounds.{round_is}
use Rattle.scan_walk.proofs.ports.scan.Goals as goal

pub returns : goal.returns
returns g c =
    let few : nat_le c.args.limit c.args.fired ≡ false = lt-leb c.args.limit c.args.fired c.if-limit-fired.false in
    round_is (ports_tried (reading c.args.s) c.args.s.machine.now.in_ports) c.args.limit c.args.fired few c.ports_tried.result c.round_of.result (g.T.Local.view c.args.local.now) (g.T.Local.view c.ports_tried.new.local)
    c.round_of.ensures
    (rw c.deref.ensures at c.ports_tried.ensures)
