use Rattle.std.proofs.lemmas.Result.{MatchResult-weaker}
use Rattle.ruby_world.proofs.alone.run_alone.Goals as goal

pub returns-clause-alone : goal.returns-clause-alone
returns-clause-alone g c =
    MatchResult-weaker c.world_after.result c.world_after.ensures (λ after is. rw is.0 (rw is.1 at c.go_on-ran.ensures.alone))
    (λ trouble is. is)

pub returns-clause-ended : goal.returns-clause-ended
returns-clause-ended g c =
    MatchResult-weaker c.world_after.result c.world_after.ensures (λ after is. rw is.0 (rw is.1 at c.go_on-ran.ensures.ended))
    (λ trouble is. is)
