use Rattle.std.proofs.Common.{false}
use Rattle.ruby_topology.proofs.Texts.{BlanksBefore}
use Rattle.ruby_topology.proofs.text.split_word.Given as goal

abbrev pub invariant-loop-i : goal.invariant-loop-i
invariant-loop-i l = BlanksBefore false l.text l.i
