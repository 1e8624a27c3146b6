use Rattle.std.proofs.Common.{arith}
use Rattle.slicc_lex.proofs.EndedTokens.{are_ended, are_few}
use Rattle.slicc_parse.proofs.EndedOnce.{ended_once}
use Rattle.reading_rows.proofs.texts.add_text.Goals as goal

pub add_found-requires-clause-ended : goal.add_found-requires-clause-ended
add_found-requires-clause-ended c = are_ended 3 c.args.text.now c.in-Ok.tokens c.in-Ok.ensures

pub add_found-requires-clause-once : goal.add_found-requires-clause-once
add_found-requires-clause-once c = ended_once 3 c.args.text.now c.in-Ok.tokens c.in-Ok.ensures

pub add_found-requires-clause-size : goal.add_found-requires-clause-size
add_found-requires-clause-size c = omega (arith, are_few 3 c.args.text.now c.in-Ok.tokens c.in-Ok.ensures)
