use Rattle.body_walk.specs.Prelude.{CallsDo}
use Rattle.statement_walk.proofs.functions.body_done.Goals as goal

pub all_done-requires-clause-does : goal.all_done-requires-clause-does
unfolding CallsDo
all_done-requires-clause-does g c = λ k arguments p q r post. post.1
