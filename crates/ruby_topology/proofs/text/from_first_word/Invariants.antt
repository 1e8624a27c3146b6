use Rattle.std.proofs.Common.{true}
use Rattle.ruby_topology.proofs.Texts.{BlanksBefore}
use Rattle.ruby_topology.proofs.text.from_first_word.Given as goal

abbrev pub invariant-loop-i : goal.invariant-loop-i
invariant-loop-i l = BlanksBefore true l.text l.i
