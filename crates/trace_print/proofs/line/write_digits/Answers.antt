use Rattle.std.proofs.Common.{◌-◌, arith, length-set, ◌∙◌}
use Rattle.trace_print.proofs.Digits.{at_first, one_more, shorter, the_first}
use Rattle.trace_print.proofs.line.write_digits.Goals as goal

pub loop-left-init : goal.loop-left-init
loop-left-init c =
    record {
      some = omega arith;
      within = omega arith;
      long = c.told-buffer;
      below = omega (arith, c.ranges.number.fits);
      rest = at_first c.args.number c.args.buffer.now (omega (arith, c.told-buffer));
    }

pub loop-left-preserved : goal.loop-left-preserved
loop-left-preserved c =
    let l = c.loop-left in
    let less = shorter l.at l.left c.loop-left-test.true l.invariant.below in
    record {
      some = omega (arith, less.0);
      within = omega (arith, l.invariant.within);
      long = length-set l.buffer (l.at - 1) c.digit.result ∙ l.invariant.long;
      below = less.1;
      rest = one_more c.args.number l.left l.at c.digit.result l.buffer c.loop-left-test.true l.invariant.some (omega (arith, l.invariant.within, l.invariant.long)) c.digit.ensures l.invariant.rest;
    }

pub returns-clause-written : goal.returns-clause-written
returns-clause-written c =
    let l = c.loop-left in
    the_first c.args.number l.left l.at c.digit-2.result l.buffer c.loop-left-test.false l.invariant.some (omega (arith, l.invariant.within, l.invariant.long)) c.digit-2.ensures l.invariant.rest
