use Rattle.std.proofs.Common.{◌++◌, false, ap, ◌∙◌, arith, append_assoc}
use Rattle.trace_print.proofs.Adding.{same_line}
use Rattle.trace_print.proofs.Putting.{filled_cut, filled_on, from_nothing}
use Rattle.trace_print.proofs.line.add.Goals as goal

pub loop-left-preserved : goal.loop-left-preserved
loop-left-preserved g c =
    let l = c.loop-left in
    let room = c.remaining_capacity-in-loop-left in
    λ rest whole last on. l.invariant rest whole last
    (filled_on g.S.Sink.writes l.sink c.put.new.sink last l.line.items l.left.now rest c.as_slice.result.now c.split_at.result.1.now room.result whole
    room.ensures (omega (arith, c.loop-left-test.true, c.remaining_capacity.ensures, room.ensures))
    (cc (c.as_slice.ensures.value, c.hold.ensures, c.split_at.ensures.front)) c.split_at.ensures.back c.if-not-put.ensures.by_writes
    (from_nothing g.S.Sink.writes c.put.new.sink last c.clear.new.self.items (c.split_at.result.1.now ++ rest) whole c.clear.ensures on))

pub returns-then-not-put : goal.returns-then-not-put
returns-then-not-put g c =
    let l = c.loop-left in
    let room = c.remaining_capacity-in-loop-left in
    record {
      goes_on = tt;
      cut_off = λ rest. l.invariant rest false c.put.new.sink
          (filled_cut g.S.Sink.writes l.sink c.put.new.sink l.line.items l.left.now rest c.as_slice.result.now room.result
          room.ensures (omega (arith, c.loop-left-test.true, c.remaining_capacity.ensures, room.ensures))
          (cc (c.as_slice.ensures.value, c.hold.ensures, c.split_at.ensures.front)) c.if-not-put.ensures.by_writes);
    }

pub returns : goal.returns
returns g c =
    let l = c.loop-left in
    record {
      goes_on = λ rest whole last put. l.invariant rest whole last
          (same_line g.S.Sink.writes l.sink last whole (c.hold-2.new.line.items ++ rest) (l.line.items ++ (l.left.now ++ rest))
          (ap (λ held. held ++ rest) c.hold-2.ensures ∙ append_assoc l.line.items l.left.now rest) put);
      cut_off = tt;
    }
