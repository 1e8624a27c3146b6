use Rattle.std.proofs.Common.{arith}
use Rattle.slicc_lex.proofs.EndedTokens.{are_few}
use Rattle.slicc_parse.proofs.EndedOnce.{ended_once}
use Rattle.slicc_files.proofs.ReadTexts.{lexical_fault, text_of_tokens}
use Rattle.slicc_files.proofs.reading.read_text.Goals as goal

pub read_tokens-requires-clause-size : goal.read_tokens-requires-clause-size
read_tokens-requires-clause-size c = omega (arith, are_few c.args.file c.args.bytes.now c.in-Ok.tokens c.in-Ok.ensures, c.requires)

pub read_tokens-requires-clause-ended : goal.read_tokens-requires-clause-ended
read_tokens-requires-clause-ended c = ended_once c.args.file c.args.bytes.now c.in-Ok.tokens c.in-Ok.ensures

pub returns-in-Ok : goal.returns-in-Ok
returns-in-Ok c = text_of_tokens c.args.file c.args.bytes.now c.in-Ok.tokens c.read_tokens.result c.in-Ok.ensures c.read_tokens.ensures

pub returns-in-Err : goal.returns-in-Err
returns-in-Err c = lexical_fault c.args.file c.args.bytes.now c.in-Err.fault c.lexical.result c.in-Err.ensures c.lexical.ensures
