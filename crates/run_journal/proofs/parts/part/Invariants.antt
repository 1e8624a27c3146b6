use Rattle.std.proofs.Common.{◌≡◌, ◌++◌, drop}
use Rattle.run_journal.specs.Prelude.{part_of}
use Rattle.run_journal.proofs.parts.part.Given as goal

-- what is there and what the rest of the journal gives are the whole part
abbrev pub invariant-loop-place : goal.invariant-loop-place
invariant-loop-place l = l.entries ++ part_of l.controller (drop l.place l.j) ≡ part_of l.controller l.j
