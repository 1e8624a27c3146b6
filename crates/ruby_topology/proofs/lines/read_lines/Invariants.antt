use Rattle.std.proofs.Common.{◌≡◌, ◌≤◌, ◌+◌, All, length}
use Rattle.ruby_topology.specs.Prelude.{read_from, reading, controllers, lines_of, IsWithin}
use Rattle.ruby_topology.proofs.lines.read_lines.Given as goal

abbrev pub invariant-loop-rest : goal.invariant-loop-rest
invariant-loop-rest l =
    record {
      same : read_from l.symbols l.number l.said (lines_of l.rest) ≡ reading l.symbols (lines_of l.bytes);
      room : controllers l.said ≤ 64;
      within : All IsWithin l.said;
      few : l.number + length l.rest ≤ length l.bytes + 1;
      count : l.number + length (lines_of l.rest) ≡ length (lines_of l.bytes) + 1;
    }

abbrev pub decreases-loop-rest : goal.decreases-loop-rest
decreases-loop-rest l = length l.rest
