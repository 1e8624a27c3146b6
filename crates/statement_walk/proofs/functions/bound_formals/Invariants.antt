use Rattle.std.proofs.Common.{◌≡◌, ◌++◌, List}
use Rattle.ruby_value.specs.declared.value.Value.{Value}
use Rattle.body_meaning.specs.Prelude.{bound_formals}
use Rattle.statement_walk.proofs.functions.bound_formals.Given as goal

abbrev pub invariant-loop-v : goal.invariant-loop-v
invariant-loop-v l = (later : List Value) → l.names ++ bound_formals l.rest later ≡ bound_formals l.formals (l.yielded ++ later)
