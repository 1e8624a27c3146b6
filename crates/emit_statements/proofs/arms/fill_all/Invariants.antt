use Rattle.std.proofs.Common.{◌≡◌, drop}
use Rattle.emit_statements.specs.Prelude.{filled_all}
use Rattle.emit_statements.proofs.arms.fill_all.Given as goal

abbrev pub invariant-loop-at : goal.invariant-loop-at
invariant-loop-at l = filled_all (drop l.at-index l.jumps) l.code ≡ filled_all l.jumps l.initial.code
