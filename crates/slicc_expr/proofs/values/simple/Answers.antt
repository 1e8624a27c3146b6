use Rattle.slicc_expr.proofs.Ahead.{simple_read, not_simple, no_simple}
use Rattle.slicc_expr.proofs.values.simple.Goals as goal

pub returns-in_default-clause-read : goal.returns-in_default-clause-read
returns-in_default-clause-read c = absurd (no_simple c.args.tokens.now c.requires c.in_default.ensures)

pub returns-in-Some-value_of-clause-read : goal.returns-in-Some-value_of-clause-read
returns-in-Some-value_of-clause-read c =
    simple_read c.args.room c.in-Some-value_of.value c.in-Some.first.now c.args.tokens.now c.in-Some.left.now c.in-Some.ensures c.in-Some-value_of.ensures

pub returns-in-None-clause-read : goal.returns-in-None-clause-read
returns-in-None-clause-read c = absurd (not_simple c.in-Some.first.now c.args.tokens.now c.in-Some.left.now c.requires c.in-Some.ensures c.in-None.ensures)
