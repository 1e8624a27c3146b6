use Rattle.std.proofs.Common.{arith, inr}
use Rattle.std.proofs.lemmas.List.Sums.{prefix_len-le-length}
use Rattle.slicc_ast.specs.Prelude.{is_word_byte}
use Rattle.slicc_lex.proofs.FoundWords.{found_reserved, found_name, name_too_long}
use Rattle.slicc_lex.proofs.front.word.Goals as goal

pub split_at-requires : goal.split_at-requires
split_at-requires c = omega (arith, c.word_len-size.ensures, prefix_len-le-length is_word_byte c.args.bytes.now)

pub returns-in-Some : goal.returns-in-Some
returns-in-Some c = found_reserved c.args.bytes.now c.split_at.result.0.now c.word_len-size.result c.in-Some.word c.requires c.word_len-size.ensures c.split_at.ensures.front c.in-Some.ensures

pub returns-then-size-gt-LONGEST_NAME : goal.returns-then-size-gt-LONGEST_NAME
returns-then-size-gt-LONGEST_NAME c = inr (name_too_long c.args.at c.args.bytes.now c.split_at.result.0.now c.word_len-size.result c.requires c.word_len-size.ensures c.split_at.ensures.front c.in_default.ensures c.if-size-gt-LONGEST_NAME.true)

pub returns-in-Ok : goal.returns-in-Ok
returns-in-Ok c = found_name c.args.bytes.now c.split_at.result.0.now c.in-Ok.name c.word_len-size.result c.requires c.word_len-size.ensures c.split_at.ensures.front c.in_default.ensures c.in-Ok.ensures c.if-size-gt-LONGEST_NAME.false
