use Rattle.std.proofs.Common.{◌≡◌, ◌+◌, ◌-◌, ◌*◌, ◌++◌, Some, drop, length, reverse, slice_get}
use Rattle.acts.specs.Prelude.{run}
use Rattle.code_frame.specs.Prelude.{IsMark}
use Rattle.code_meaning.specs.Prelude.{argument_count, arguments_on, bodies_below, exec, run_body}
use Rattle.action_vm.specs.Prelude.{IsAt, held_of, own}
use Rattle.action_vm.proofs.running.+running.Given as goal

abbrev pub decreases-run : goal.decreases-run
decreases-run g l = 2 * l.body + 1

abbrev pub decreases-step : goal.decreases-step
decreases-step g l = 2 * l.body

abbrev pub invariant-run-walk : goal.invariant-run-walk
invariant-run-walk g l =
    (slice_get l.p.bodies l.body ≡ Some l.c)
    × IsAt l.p l.body l.c l.at (own l.frame l.messages) (g.T.Local.view l.local)
    × (run (exec l.p l.c (bodies_below l.p l.body) (drop l.at l.c.instructions) l.at 0 (held_of (g.T.Local.view l.local) (own l.frame l.messages))) (g.T.Local.view l.local)
    ≡ run (run_body l.p l.body (arguments_on (argument_count (slice_get l.p.bodies l.body)) l.fn.frame.stack)) (g.T.Local.view l.fn.local))
    × IsMark l.mark l.fn.frame
    × (l.frame.under ≡ l.fn.frame.under ++ l.fn.frame.locals ++ reverse (drop (argument_count (slice_get l.p.bodies l.body)) l.fn.frame.stack))

abbrev pub decreases-run-walk : goal.decreases-run-walk
decreases-run-walk g l = length l.c.instructions - l.at
