use Rattle.std.proofs.Common.{◌≡◌, eqb, reverse, take}
use Rattle.std.specs.Map.{lookup}
use Rattle.ctl_tables.proofs.states.newest_state.Given as goal

abbrev pub invariant-loop-i : goal.invariant-loop-i
invariant-loop-i l = lookup (λ k. eqb l.line k) (reverse (take l.i l.states)) ≡ lookup (λ k. eqb l.line k) (reverse l.states)
