use Rattle.ruby_topology.proofs.Texts.{NoEndBefore}
use Rattle.ruby_topology.proofs.text.first_line.Given as goal

abbrev pub invariant-loop-i : goal.invariant-loop-i
invariant-loop-i l = NoEndBefore l.bytes l.i
