use Rattle.ruby_answers.proofs.MadeRuns.{plain_alone}
use Rattle.ruby_answers.proofs.tested_runs.untested_run.Goals as goal

pub returns-clause-by_one_worker : goal.returns-clause-by_one_worker
returns-clause-by_one_worker g c =
    plain_alone c.args.plan c.args.topology c.args.options c.new-driver.result c.run_by.result c.requires.command c.new-driver.ensures
    c.run_by.ensures.topology c.run_by.ensures.options c.run_by.ensures.alone
