use Rattle.std.proofs.lemmas.Result.{MatchResult-weaker}
use Rattle.ruby_world.specs.Prelude.{RunLimits}
use Rattle.ruby_world.proofs.WholeRuns.{begins-nobody, whole-alone}
use Rattle.ruby_world.proofs.whole.run_whole.Goals as goal

pub run_alone-requires-clause-nobody : goal.run_alone-requires-clause-nobody
run_alone-requires-clause-nobody g c κs within =
    let limits : RunLimits = record { seed = c.args.options.seed; cycles = c.args.options.cycles; limit = c.args.options.limit } in
    begins-nobody g.D.Driver.drive c.in_ok-opened.opened c.args.plan c.args.topology limits c.args.driver c.in_ok-opened.ensures

pub returns-clause-alone : goal.returns-clause-alone
returns-clause-alone g c =
    let limits : RunLimits = record { seed = c.args.options.seed; cycles = c.args.options.cycles; limit = c.args.options.limit } in
    MatchResult-weaker c.into_record.result c.into_record.ensures.alone
    (λ r leads.
    whole-alone g.D.Driver.drive c.in_ok-opened.opened c.args.plan c.args.topology limits c.args.driver c.in_ok-opened.ensures c.in_ok-ended.ended
    c.in_ok-ended.ensures.alone r leads)
    (λ trouble is. is)
