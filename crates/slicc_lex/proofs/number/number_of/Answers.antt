use Rattle.std.proofs.Common.{arith}
use Rattle.slicc_lex.proofs.Numbers.{number_at_least}
use Rattle.slicc_lex.proofs.number.number_of.Goals as goal

pub returns-then-next-gt-LARGEST : goal.returns-then-next-gt-LARGEST
returns-then-next-gt-LARGEST c =
    let least = number_at_least c.args.base c.args.digits.now c.loop-digit.digit-index c.loop-digit.number c.requires (omega arith) c.loop-digit.invariant.0 in
    omega (arith, least)
