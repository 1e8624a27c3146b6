use Rattle.std.proofs.Common.{rules, arith, ◌≡◌, ◌+◌, ◌-◌}
use Rattle.acts.proofs.Walk.{walk_steps}
use Rattle.body_meaning.specs.Prelude.{reading}
use Rattle.body_walk.specs.Prelude.{CallsDo}
use Rattle.statement_walk.proofs.BodyCalls.{call_within, no_call_within}
use Rattle.statement_walk.proofs.functions.+call_function+fn-call_function-calls.Goals as goal

pub returns-then-depth-eq0 : goal.returns-then-depth-eq0
returns-then-depth-eq0 g t c =
    rw (no_call_within (reading c.args.s) c.args.depth c.args.number c.args.arguments c.if-depth-eq0.true) (search (rules, walk_steps))

pub function_called-requires-clause-does : goal.function_called-requires-clause-does
unfolding CallsDo
function_called-requires-clause-does g t c = λ k arguments p q r post. post.1

pub returns : goal.returns
returns g t c =
    let next : c.args.depth ≡ (c.args.depth - 1) + 1 = omega (arith, c.if-depth-eq0.false) in
    rw (call_within (reading c.args.s) c.args.depth (c.args.depth - 1) c.args.number c.args.arguments next) c.function_called.ensures
