use Rattle.std.proofs.Common.{◌≡◌, ◌-◌, ℕ, length, take, drop, arith, length-drop, length-take, ap, rules}
use Rattle.ruby_outside.specs.Prelude.{bytes_taken}
use Rattle.ruby_outside.specs.declared.sink.Wrote.TheVariants.{Took}
use Rattle.ruby_outside.proofs.Puts.{all_left, fails, goes_on, stuck, put_written}
use Rattle.ruby_outside.proofs.sink.put.Goals as goal

pub loop-done-preserved : goal.loop-done-preserved
loop-done-preserved g c =
    let left = take (length c.args.piece.now - c.loop-done.done) (drop c.loop-done.done c.args.piece.now) in
    let is = g.met.S.Sink.lawful c.loop-done.sink left c.write.result c.write.new.self c.write.ensures in
    let took : c.write.result ≡ Took c.in-Took.count = search rules in
    record {
      within = omega (arith, is.within, ap bytes_taken took, length-take {A = ℕ}, length-drop {A = ℕ});
      step = λ whole after rest. c.loop-done.invariant.step whole after (goes_on g.S.Sink.writes c.loop-done.sink c.write.new.self after c.args.piece.now c.loop-done.done c.in-Took.count whole (omega arith) (search rules) rest);
    }

pub returns-in-Took-eq0-clause-by_writes : goal.returns-in-Took-eq0-clause-by_writes
returns-in-Took-eq0-clause-by_writes g c =
    c.loop-done.invariant.step _ _ (stuck g.S.Sink.writes c.loop-done.sink c.write.new.self c.args.piece.now c.loop-done.done c.write.result (omega arith) (search rules) c.write.ensures)

pub returns-in-Took-eq0-2-clause-by_writes : goal.returns-in-Took-eq0-2-clause-by_writes
returns-in-Took-eq0-2-clause-by_writes g c =
    c.loop-done.invariant.step _ _ (fails g.S.Sink.writes c.loop-done.sink c.write.new.self c.args.piece.now c.loop-done.done c.write.result (omega arith) (search rules) c.write.ensures)

pub returns-clause-by_writes : goal.returns-clause-by_writes
returns-clause-by_writes g c =
    c.loop-done.invariant.step _ _ (all_left g.S.Sink.writes c.loop-done.sink c.args.piece.now c.loop-done.done (omega arith))

pub returns-in-Took-eq0-clause-written : goal.returns-in-Took-eq0-clause-written
returns-in-Took-eq0-clause-written g c =
    put_written g.S.Sink.written g.S.Sink.faults g.S.Sink.writes g.met.S.Sink.lawful _ _ _ _ (returns-in-Took-eq0-clause-by_writes g c)

pub returns-in-Took-eq0-2-clause-written : goal.returns-in-Took-eq0-2-clause-written
returns-in-Took-eq0-2-clause-written g c =
    put_written g.S.Sink.written g.S.Sink.faults g.S.Sink.writes g.met.S.Sink.lawful _ _ _ _ (returns-in-Took-eq0-2-clause-by_writes g c)

pub returns-clause-written : goal.returns-clause-written
returns-clause-written g c =
    put_written g.S.Sink.written g.S.Sink.faults g.S.Sink.writes g.met.S.Sink.lawful _ _ _ _ (returns-clause-by_writes g c)
