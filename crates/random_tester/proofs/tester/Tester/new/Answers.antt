use Rattle.std.proofs.Common.{rules}
use Rattle.random_tester.proofs.Opening.{opens}
use Rattle.random_tester.proofs.tester.Tester.new.Goals as goal

pub returns-clause-opening : goal.returns-clause-opening
returns-clause-opening c =
    opens c.args.seed c.args.stream c.args.lines c.args.checks c.args.deadlock _ (search rules)
