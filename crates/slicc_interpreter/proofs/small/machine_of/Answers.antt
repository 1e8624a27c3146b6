use Rattle.std.proofs.Common.{rules, ◌≡◌, slice_get}
use Rattle.std.specs.Option.{option_copied}
use Rattle.slicc_plan.specs.Prelude.{symbols_of}
use Rattle.slicc_interpreter.proofs.Scans.{numbers_at}
use Rattle.slicc_interpreter.proofs.small.machine_of.Goals as goal

pub returns-clause-numbers : goal.returns-clause-numbers
returns-clause-numbers c =
    let is : option_copied c.get.result ≡ slice_get (symbols_of c.args.plan.now).machines c.args.number = search rules in
    numbers_at (symbols_of c.args.plan.now).machines c.args.number (option_copied c.get.result) c.plans_are_small.ensures.numbers is
