use Rattle.trace_print.specs.Prelude.{all_put}
use Rattle.trace_print.proofs.Listing.{one_line}
use Rattle.trace_print.proofs.entries.write_end.Goals as goal

pub returns-in-Stop : goal.returns-in-Stop
returns-in-Stop g c = rw c.in-Stop.is (one_line g.S.Sink.writes c.args.sink.now c.write_stop.new.sink _ c.write_stop.result c.write_stop.ensures)

pub returns-in-Idle : goal.returns-in-Idle
returns-in-Idle g c = rw c.in-Idle.is (all_put c.args.sink.now)

pub returns-in-Full : goal.returns-in-Full
returns-in-Full g c = rw c.in-Full.is (all_put c.args.sink.now)
