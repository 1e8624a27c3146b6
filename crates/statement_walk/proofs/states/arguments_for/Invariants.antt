use Rattle.std.proofs.Common.{◌≡◌, map, take}
use Rattle.body_meaning.specs.Prelude.{state_argument}
use Rattle.statement_walk.proofs.states.arguments_for.Given as goal

abbrev pub invariant-loop-argument : goal.invariant-loop-argument
invariant-loop-argument l = l.values ≡ map (state_argument l.m l.a l.state) (take l.argument-index l.arguments)
