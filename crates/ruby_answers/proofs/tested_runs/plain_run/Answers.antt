use Rattle.ruby_answers.proofs.tested_runs.plain_run.Goals as goal

pub run-requires-clause-fits : goal.run-requires-clause-fits
run-requires-clause-fits g c =
    c.plain_topologies_fit.ensures c.args.plan c.in_ok-topology.topology c.trees-trees.ensures.accepted c.in_ok-topology.ensures.ok
