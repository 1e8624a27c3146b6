use Rattle.std.proofs.Common.{arith}
use Rattle.declaration_rules.proofs.Digits.{stops}
use Rattle.declaration_rules.proofs.numbers.read_digits.Goals as goal

pub returns-then-n-ge-LIMIT : goal.returns-then-n-ge-LIMIT
returns-then-n-ge-LIMIT c =
    stops c.args.base c.loop-c.n c.args.digits.now c.loop-c.c-index c.with_digit-n.result _ c.loop-c-test.true c.with_digit-n.ensures (omega arith) c.loop-c.invariant.rest
