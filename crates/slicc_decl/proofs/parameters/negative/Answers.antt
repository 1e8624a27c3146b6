use Rattle.std.proofs.Common.{rules}
use Rattle.slicc_ast.specs.Prelude.{number_token}
use Rattle.slicc_reading.proofs.Parts.{◌then◌, as_node, at_first, behind}
use Rattle.slicc_decl.proofs.parameters.negative.Goals as goal

pub returns-in-Ok-number-clause-read : goal.returns-in-Ok-number-clause-read
returns-in-Ok-number-clause-read c =
    let read = as_node c.span.result c.span.ensures (c.in-Ok.ensures.read then c.in-Ok-number.ensures.read) in
    search (rules, read)

pub returns-in-Err-number-clause-read : goal.returns-in-Err-number-clause-read
returns-in-Err-number-clause-read c = behind c.in-Ok.ensures.read c.in-Err-number.ensures.read

pub returns-in-Err-clause-read : goal.returns-in-Err-clause-read
returns-in-Err-clause-read c = at_first number_token c.in-Err.ensures.read
