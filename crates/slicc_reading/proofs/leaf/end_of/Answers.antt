use Rattle.std.proofs.Common.{length, ◌-◌, sym}
use Rattle.slicc_reading.proofs.Spans.{last_is, some_at}
use Rattle.slicc_reading.proofs.leaf.end_of.Goals as goal

pub returns-in-Some : goal.returns-in-Some
returns-in-Some c = last_is c.args.others.now c.args.first.now.span c.in-Some.last.now (length c.args.others.now - 1) (some_at c.args.others.now c.in-Some.last.now c.in-Some.ensures.value) (sym c.in-Some.ensures.value)
