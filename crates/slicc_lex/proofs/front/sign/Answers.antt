use Rattle.std.proofs.Common.{sym, inr}
use Rattle.slicc_lex.proofs.FoundSigns.{found_pair, found_single, bad_sign}
use Rattle.slicc_lex.proofs.front.sign.Goals as goal

pub returns-in-Some : goal.returns-in-Some
returns-in-Some c = found_pair c.args.first c.args.behind.now c.in-Some.sign c.requires (sym c.in-Some.ensures)

pub returns-in-Some-single_sign : goal.returns-in-Some-single_sign
returns-in-Some-single_sign c = found_single c.args.first c.args.behind.now c.in-Some-single_sign.sign c.requires (sym c.in_default.ensures) (sym c.in-Some-single_sign.ensures)

pub returns-in-None : goal.returns-in-None
returns-in-None c = inr (bad_sign c.args.at c.args.first c.args.behind.now c.requires (sym c.in_default.ensures) (sym c.in-None.ensures))
