use Rattle.slicc_ast.specs.Prelude.{names_of}
use Rattle.slicc_reading.specs.Prelude.{no_memory}
use Rattle.slicc_reading.proofs.Parts.{name_read, other_token_refused, no_token_refused}
use Rattle.slicc_reading.proofs.leaf.name_text.Goals as goal

pub returns-in_default-clause-read : goal.returns-in_default-clause-read
returns-in_default-clause-read c = no_token_refused c.args.room names_of c.args.tokens.now c.refuse.result c.in_default.ensures c.refuse.ensures

pub returns-in-Ok-clause-read : goal.returns-in-Ok-clause-read
returns-in-Ok-clause-read c = name_read c.args.room c.in-Ok.text c.in-Some-name_of.text.now c.in-Some.first.now c.args.tokens.now c.in-Some.left.now c.in-Some.ensures c.in-Some-name_of.ensures c.in-Ok.ensures

pub returns-in-Err-clause-read : goal.returns-in-Err-clause-read
returns-in-Err-clause-read c = no_memory

pub returns-in-None-clause-read : goal.returns-in-None-clause-read
returns-in-None-clause-read c =
    other_token_refused c.args.room names_of c.in-Some.first.now c.args.tokens.now c.in-Some.left.now c.refuse-in-None.result
    c.in-Some.ensures c.in-None.ensures c.refuse-in-None.ensures
