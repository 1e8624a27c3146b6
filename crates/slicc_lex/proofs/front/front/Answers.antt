use Rattle.std.proofs.Common.{sym, ◌∙◌}
use Rattle.slicc_lex.proofs.FoundGaps.{found_blank}
use Rattle.slicc_lex.proofs.front.front.Goals as goal

pub returns-in-Blank : goal.returns-in-Blank
returns-in-Blank c = found_blank c.args.bytes.now c.in-Some.first.now c.in-Some.behind.now c.in-Some.ensures (sym c.class_of.ensures ∙ c.in-Blank.is)
