use Rattle.std.proofs.Common.{◌≡◌, map, take}
use Rattle.ruby_answers.specs.Prelude.{machine_rows}
use Rattle.ruby_answers.proofs.tables.rows_in.Given as goal

abbrev pub invariant-loop-place : goal.invariant-loop-place
invariant-loop-place l = l.found ≡ map machine_rows (map (λ m. m.now) (take l.place l.machines))
