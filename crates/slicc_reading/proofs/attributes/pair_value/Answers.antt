use Rattle.slicc_reading.specs.Prelude.{value_kinds, no_memory}
use Rattle.slicc_reading.proofs.PairLists.{value_read}
use Rattle.slicc_reading.proofs.Parts.{other_token_refused, no_token_refused}
use Rattle.slicc_reading.proofs.attributes.pair_value.Goals as goal

pub returns-in_default-clause-read : goal.returns-in_default-clause-read
returns-in_default-clause-read c = no_token_refused c.args.room value_kinds c.args.tokens.now c.refuse.result c.in_default.ensures c.refuse.ensures

pub returns-in-Ok-Some-clause-read : goal.returns-in-Ok-Some-clause-read
returns-in-Ok-Some-clause-read c =
    value_read c.args.room c.in-Ok-Some.value c.in-Some.first.now c.args.tokens.now c.in-Some.left.now c.in-Some.ensures
    (rw c.in-Ok-Some.field-0-is at c.in-Ok-Some.ensures)

pub returns-in-Ok-None-clause-read : goal.returns-in-Ok-None-clause-read
returns-in-Ok-None-clause-read c =
    other_token_refused c.args.room value_kinds c.in-Some.first.now c.args.tokens.now c.in-Some.left.now c.refuse-in-Ok-None.result c.in-Some.ensures
    (rw c.in-Ok-None.field-0-is at c.in-Ok-None.ensures) c.refuse-in-Ok-None.ensures

pub returns-in-Err-clause-read : goal.returns-in-Err-clause-read
returns-in-Err-clause-read c = no_memory
