use Rattle.std.proofs.Common.{◌∙◌, sym}
use Rattle.ruby_answers.proofs.Following.{own_order, other_order}
use Rattle.ruby_answers.proofs.runs.traced_journal.Goals as goal

pub returns-in-None : goal.returns-in-None
returns-in-None c =
    let r = c.args.run.now in own_order r.options.order r.journal (sym c.requires ∙ c.in-None.is)

pub returns-in-Some : goal.returns-in-Some
returns-in-Some c =
    let r = c.args.run.now in other_order r.options.order r.journal c.in-Some.journal (sym c.requires ∙ c.in-Some.is)
