use Rattle.protocol_meaning.specs.declared.record.RunRecord.{RunRecord}
use Rattle.ruby_world.proofs.Records.{is-alone, is-record}
use Rattle.ruby_world.proofs.recording.into_record.Goals as goal

pub returns-clause-record : goal.returns-clause-record
returns-clause-record g c =
    let r : RunRecord = record {
      plan = c.in_ok-plan.plan;
      topology = c.in_ok-plan.topology;
      options = c.args.options;
      history = c.in_ok-plan.history;
      journal = c.in_ok-plan.journal;
      finals = c.in_ok-plan.finals;
      account = c.in_ok-sums.sums.1;
      verdict = c.ending-verdict.result;
      tallies = c.in_ok-sums.sums.0;
    } in
    λ w is.
    is-record g.D.Driver.drive c.args.ended r c.in_ok-plan.ensures.plan c.in_ok-plan.ensures.topology c.requires.seed c.requires.cycles c.requires.limit
    c.in_ok-plan.ensures.history w is c.in_ok-plan.ensures.journal c.in_ok-plan.ensures.finals (c.in_ok-sums.ensures.account w is) (c.ending-verdict.ensures w is)
    c.in_ok-sums.ensures.tallies

pub returns-clause-whole : goal.returns-clause-whole
returns-clause-whole g c =
    let r : RunRecord = record {
      plan = c.in_ok-plan.plan;
      topology = c.in_ok-plan.topology;
      options = c.args.options;
      history = c.in_ok-plan.history;
      journal = c.in_ok-plan.journal;
      finals = c.in_ok-plan.finals;
      account = c.in_ok-sums.sums.1;
      verdict = c.ending-verdict.result;
      tallies = c.in_ok-sums.sums.0;
    } in
    let run = c.law.ensures.run in (
      run.0,
      is-record g.D.Driver.drive c.args.ended r c.in_ok-plan.ensures.plan c.in_ok-plan.ensures.topology c.requires.seed c.requires.cycles c.requires.limit
          c.in_ok-plan.ensures.history run.0 run.1 c.in_ok-plan.ensures.journal c.in_ok-plan.ensures.finals (c.in_ok-sums.ensures.account run.0 run.1)
          (c.ending-verdict.ensures run.0 run.1) c.in_ok-sums.ensures.tallies,
      c.requires.ended run.0 run.1,
    )

pub returns-clause-alone : goal.returns-clause-alone
returns-clause-alone g c =
    let r : RunRecord = record {
      plan = c.in_ok-plan.plan;
      topology = c.in_ok-plan.topology;
      options = c.args.options;
      history = c.in_ok-plan.history;
      journal = c.in_ok-plan.journal;
      finals = c.in_ok-plan.finals;
      account = c.in_ok-sums.sums.1;
      verdict = c.ending-verdict.result;
      tallies = c.in_ok-sums.sums.0;
    } in
    is-alone g.D.Driver.drive c.args.ended r c.in_ok-plan.ensures.plan c.in_ok-plan.ensures.topology c.requires.seed c.requires.cycles c.requires.limit
    c.in_ok-plan.ensures.history
