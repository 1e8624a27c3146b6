use Rattle.slicc_reading.specs.Prelude.{no_memory}
use Rattle.slicc_reading.proofs.BalancedParts.{loose_read}
use Rattle.slicc_reading.proofs.brackets.loose.Goals as goal

pub returns-in-Ok-clause-read : goal.returns-in-Ok-clause-read
returns-in-Ok-clause-read c =
    loose_read c.args.room c.in-Ok.kind c.in-Some.first.now c.args.tokens.now c.in-Some.left.now c.in-Some.ensures c.in-Ok.ensures c.requires

pub returns-in-Err-clause-read : goal.returns-in-Err-clause-read
returns-in-Err-clause-read c = no_memory
